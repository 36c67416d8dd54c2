use Rattle.std.proofs.Common.{◌++◌, List, ℕ, is_some, map, ap, ap₂, ◌∙◌}
use Rattle.std.specs.List.{filter}
use Rattle.std.proofs.lemmas.List.{map-append}
use Rattle.nj_edges.specs.Edges.{maker_of}
use Rattle.nj_names.specs.Files.{path_at}
use Rattle.nj_needs.specs.Growing.{grown_targets}
use Rattle.nj_ask.proofs.StatedLemmas.{paths-are}
use Rattle.nj_ask.proofs.missing.required_files.Goals as goal

pub returns-clause-paths : goal.returns-clause-paths
returns-clause-paths c =
    let g = c.args.graph.now in
    let at = path_at g.files in
    let paths = map at c.args.targets.now in
    ap (map at) c.in_ok-extend_from_slice.ensures.items
    ∙ map-append at c.in_ok-files.files.items c.deref-2.result.now
    ∙ ap₂ (λ x y. x ++ y) (ap (map at) c.in_ok-files.ensures.items)
    (ap (map at) c.deref-2.ensures.value ∙ c.in_ok-made.ensures.paths
    ∙ ap (filter (λ (path : List ℕ). is_some (maker_of g.edges path))) (ap (map at) c.deref.ensures.value
    ∙ paths-are g.files c.in_ok-grown.grown.items (grown_targets g.edges paths) c.in_ok-grown.ensures.grown))
