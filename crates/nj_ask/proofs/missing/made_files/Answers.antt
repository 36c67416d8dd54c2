use Rattle.std.proofs.Common.{◌++◌, ◌∷◌, [], ℕ, List, get_or, is_some, map, take, ap, sym, ◌∙◌}
use Rattle.std.specs.List.{filter}
use Rattle.std.proofs.lemmas.List.{take_all}
use Rattle.std.proofs.lemmas.List.Elements.{filter-append}
use Rattle.nj_names.specs.Files.{path_at}
use Rattle.nj_edges.specs.Edges.{maker_of}
use Rattle.nj_graph.specs.declared.FileNo.{FileNo}
use Rattle.nj_ask.proofs.LineLemmas.{mapped-more}
use Rattle.nj_ask.proofs.missing.made_files.Goals as goal

pub files-preserved : goal.files-preserved
files-preserved c =
    let g = c.args.graph.now in
    let files = c.args.files.now in
    let i = c.files.file-index in
    let none : FileNo = record { 0 = 0 } in
    let at = path_at g.files in
    let made = λ (path : List ℕ). is_some (maker_of g.edges path) in
    let path = at (get_or files i none) in
    record {
      paths = c.in_ok-push_if_made.ensures.paths
          ∙ ap (λ ps. ps ++ filter made (path ∷ [])) c.files.invariant.paths
          ∙ sym (ap (filter made) (sym (mapped-more at files i none c.files-test.true))
          ∙ filter-append made (map at (take i files)) (path ∷ []));
      known = c.in_ok-push_if_made.ensures.known;
    }

pub returns-clause-paths : goal.returns-clause-paths
returns-clause-paths c =
    let g = c.args.graph.now in
    c.files.invariant.paths
    ∙ ap (λ fs. filter (λ (path : List ℕ). is_some (maker_of g.edges path)) (map (path_at g.files) fs))
    (take_all c.files.file-index c.args.files.now c.files-test.false)
