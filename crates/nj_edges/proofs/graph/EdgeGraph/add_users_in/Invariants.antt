use Rattle.std.proofs.Common.{map, take}
use Rattle.nj_names.specs.Files.{path_at}
use Rattle.nj_edges.specs.declared.users.RowPart.{RowPart}
use Rattle.nj_edges.specs.Inside.ChangesHeld.{FindsMore}
use Rattle.nj_edges.specs.Inside.DirtyHeld.{HasOneIn, HaveUsersIn}
use Rattle.nj_edges.proofs.graph.EdgeGraph.add_users_in.Given as goal

abbrev pub invariant-files : goal.invariant-files
invariant-files l = (part : RowPart) → HaveUsersIn part l.self l.users
    → FindsMore (HasOneIn part l.self.edges (map (path_at l.self.files) (take l.file-index l.files)))
    l.fn.found l.found
