use Rattle.std.proofs.Common.{length, take}
use Rattle.std.specs.List.{filter_map}
use Rattle.nj_graph.specs.Graph.{edges_of}
use Rattle.nj_audit.specs.Roles.{maker_of_opened}
use Rattle.nj_audit.specs.Inside.RolesHeld.{HasNumbers}
use Rattle.nj_audit.proofs.roles.makers_of_opened.Given as goal

abbrev pub invariant-openings : goal.invariant-openings
invariant-openings l =
    HasNumbers (length (edges_of l.graph)) (filter_map (maker_of_opened l.graph)
    (take l.index l.graph.origins.openings)) l.makers
