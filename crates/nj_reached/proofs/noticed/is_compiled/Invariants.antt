use Rattle.std.proofs.Common.{◌≡◌, List}
use Rattle.std.specs.List.{list_any}
use Rattle.nj_graph.specs.Graph.{IsGraphOf, edges_of}
use Rattle.nj_graph.specs.Handles.{file_of}
use Rattle.nj_graph.specs.ReadingList.{ReadStatement}
use Rattle.nj_reached.specs.GraphChanges.{has_deps, is_compiled}
use Rattle.nj_reached.specs.Inside.Handles.{AreOf}
use Rattle.nj_reached.proofs.noticed.is_compiled.Given as goal

abbrev pub invariant-users : goal.invariant-users
invariant-users l = record {
  of : AreOf (file_of l.file).graph l.user-iterator;
  any : (entries : List ReadStatement) → IsGraphOf (file_of l.file).graph entries
      → list_any (λ user. has_deps entries user.number) l.user-iterator
      ≡ is_compiled entries (edges_of (file_of l.file).graph) (file_of l.file).path;
}
