use Rattle.std.proofs.Common.{map, take}
use Rattle.nj_edges.specs.Distances.{MakesOneOf}
use Rattle.nj_edges.specs.Inside.ChangesHeld.{FindsMore}
use Rattle.nj_names.specs.Files.{path_at}
use Rattle.nj_edges.proofs.search_state.add_makers.Given as goal

abbrev pub invariant-files : goal.invariant-files
invariant-files l = FindsMore (MakesOneOf l.graph.edges
    (map (path_at l.graph.files) (take l.file-index l.files))) l.fn.found l.found
