use Rattle.std.proofs.Common.{◌≡◌, Some, None, ap, bytes_eq, is_some, option_map, rules, subst, sym, ◌∙◌}
use Rattle.std.specs.Prelude.{position}
use Rattle.nj_edges.specs.Edges.{maker_of}
use Rattle.nj_graph.specs.Inside.UndeclaredFound.{MadeIs}
use Rattle.nj_graph.proofs.MadeLemmas.{not-named, path-found}
use Rattle.nj_graph.proofs.made_files.made_file.Goals as goal

pub returns-in_err-file-clause-made : goal.returns-in_err-file-clause-made
returns-in_err-file-clause-made c =
    let none : c.from_residual.result ≡ None = first_of (search rules, cc) in
    subst (MadeIs c.args.graph.now c.args.path.now) (sym none)
    (not-named c.args.graph.now.edges c.args.path.now
    (sym c.file_named.ensures.named ∙ ap is_some c.in_err-file.was))

pub returns-in_err-maker-clause-made : goal.returns-in_err-maker-clause-made
returns-in_err-maker-clause-made c =
    let g = c.args.graph.now in
    let here : position (bytes_eq c.args.path.now) g.files ≡ Some c.in_ok-file.file.0 =
    sym c.file_named.ensures.index ∙ ap (option_map (λ f. f.0)) c.in_ok-file.was in
    let none : c.from_residual-in_err-maker.result ≡ None = first_of (search rules, cc) in
    subst (MadeIs g c.args.path.now) (sym none)
    (ap (maker_of g.edges) (sym (path-found g.files c.args.path.now c.in_ok-file.file here))
    ∙ sym c.maker.ensures.maker ∙ ap (option_map (λ e. e.0)) c.in_err-maker.was)

pub returns-clause-made : goal.returns-clause-made
returns-clause-made c =
    let g = c.args.graph.now in
    let here : position (bytes_eq c.args.path.now) g.files ≡ Some c.in_ok-file.file.0 =
    sym c.file_named.ensures.index ∙ ap (option_map (λ f. f.0)) c.in_ok-file.was in (
      here,
      ap (maker_of g.edges) (sym (path-found g.files c.args.path.now c.in_ok-file.file here))
          ∙ sym c.maker.ensures.maker ∙ ap (option_map (λ e. e.0)) c.in_ok-maker.was,
    )
