use Rattle.std.proofs.Common.{◌≡◌, List, take}
use Rattle.nj_scope.specs.ReadingList.{ReadStatement}
use Rattle.nj_graph.specs.Graph.{IsGraphOf, edges_of}
use Rattle.nj_audit.specs.LoggedInputs.{inputs_in}
use Rattle.nj_audit.specs.Inside.LoggedFound.{AddsLogged}
use Rattle.nj_audit.proofs.logged_inputs.push_logged.Given as goal

abbrev pub invariant-inputs : goal.invariant-inputs
invariant-inputs l = record {
  adds : (entries : List ReadStatement) → IsGraphOf l.graph entries
      → AddsLogged l.graph entries l.folder
      (inputs_in l.graph (take l.input-index l.logged)) l.fn.found l.found;
  makers : l.makers ≡ edges_of l.graph;
  users : l.users ≡ edges_of l.graph;
}
