use Rattle.std.proofs.Common.{◌≡◌, ◌∙◌, ap, inl, inr, map, take, arith}
use Rattle.nj_names.specs.Files.{path_at}
use Rattle.nj_edge_env.specs.LateStrings.{paths_text}
use Rattle.nj_edge_env.proofs.PathLemmas.{on-err, paths_begin, paths_turn}
use Rattle.nj_edge_env.proofs.edge_paths.append_paths.Goals as goal
use Rattle.nj_edge_env.proofs.edge_paths.append_paths.Goals.{then-index-gt0+in_ok-push, else-index-gt0}

pub paths-preserved : goal.paths-preserved
paths-preserved c =
    paths_turn c.args.files.now c.args.paths.now c.args.quoting c.args.separator c.paths.index
    c.file_at.result c.path.result.now c.args.out.now.items c.paths.out.items c.if-index-gt0.out.items
    c.append_path.new.out.items
    c.file_at.ensures c.path.ensures c.paths.invariant
    (elim c.if-index-gt0.branch [
      | then-index-gt0+in_ok-push w ↦ inl (
        w.if-index-gt0.true,
        ap (λ v. v.items) w.out-is
            ∙ w.in_ok-push.ensures.items,
      )
      | else-index-gt0 w ↦ let z : c.paths.index ≡ 0 = omega (arith, w.if-index-gt0.false) in
          inr (z, ap (λ v. v.items) w.out-is)
    ])
    c.in_ok-append_path.ensures.appended

pub returns-in_err-append_path-clause-refused : goal.returns-in_err-append_path-clause-refused
returns-in_err-append_path-clause-refused c =
    on-err c.from_residual-in_err-append_path.result
    (paths_begin c.args.out.now.items (paths_text c.args.quoting c.args.separator
    (map (path_at c.args.files.now) (take c.paths.index c.args.paths.now))) c.args.separator
    c.paths.out.items c.if-index-gt0.out.items c.append_path.new.out.items
    c.paths.invariant
    (elim c.if-index-gt0.branch [
      | then-index-gt0+in_ok-push w ↦ inl (ap (λ v. v.items) w.out-is ∙ w.in_ok-push.ensures.items)
      | else-index-gt0 w ↦ inr (ap (λ v. v.items) w.out-is)
    ])
    c.in_err-append_path.ensures.refused)
