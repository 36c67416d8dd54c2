use Rattle.std.proofs.Common.{length, map}
use Rattle.nj_names.specs.Files.{path_at}
use Rattle.nj_edges.specs.Needs.{makers_of_inputs}
use Rattle.nj_needs.specs.Graphs.{row_of_paths}
use Rattle.nj_needs.specs.Growing.{grown_targets}
use Rattle.nj_needs.specs.Inside.Paths.{turns_left}
use Rattle.nj_needs.proofs.GrowingSteps.{IsGrowingOver}
use Rattle.nj_needs.proofs.growing.grow_targets.Given as goal

abbrev pub invariant-turns : goal.invariant-turns
invariant-turns l = IsGrowingOver l.graph l.targets l.files.items l.path.items l.place l.flags.items

abbrev pub decreases-turns : goal.decreases-turns
decreases-turns l =
    turns_left (makers_of_inputs l.graph.edges) (length l.graph.edges)
    (row_of_paths l.graph.edges (grown_targets l.graph.edges (map (path_at l.graph.files) l.targets)))
    l.path.items l.place
