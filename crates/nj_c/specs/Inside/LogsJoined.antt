-- How a deps log is joined.
use Rattle.std.specs.Prelude.{◌≡◌, List, length, IfOk, Some, None, Result, Ok, Err}
use Rattle.nj_deps.specs.Logs.{LogModel}
use Rattle.nj_scope.specs.ReadingList.{ReadStatement}
use Rattle.nj_scope.specs.Readings.{IsPrefix}
use Rattle.nj_faults.specs.declared.fault.GraphFault.{GraphFault}
use Rattle.nj_graph.specs.Graph.{GraphModel, IsGraphOf, edges_of, files_of}
use Rattle.nj_graph.specs.DepsLogs.{JoinsLog}
use Rattle.nj_c.specs.declared.session_state.Kept.{Kept}
use Rattle.nj_c.specs.declared.status.Status.{Status}
use Rattle.nj_c.specs.declared.status.Status.TheVariants.{Done}
use Rattle.nj_c.specs.JoinedLogs.{read_of}
use Rattle.nj_c.specs.Inside.Results.{KeepsFault}

-- the graph with a log and how far the log was read are kept, or the fault
abbrev pub KeepsJoined : (before after : Kept) → LogModel → Result GraphModel GraphFault → Status → Type 0
KeepsJoined before after log (Ok joined) status =
    (after ≡ record before { graph = Some joined; log = Some (read_of log) }) × (status ≡ Done)
KeepsJoined before after log (Err fault) status = KeepsFault before after fault status

-- a log was joined to the graph that was kept, and the result is kept
abbrev pub JoinsKnown : (before after : Kept) → LogModel → Status → Type 0
JoinsKnown before after log status =
    (g : GraphModel) × (result : Result GraphModel GraphFault) × (before.graph ≡ Some g)
    × IfOk result (λ joined. length (edges_of joined) ≡ length (edges_of g))
    × IfOk result (λ joined. IsPrefix (files_of g) (files_of joined)) × IfOk result (λ joined. joined.origins ≡ g.origins)
    × ((stated : List ReadStatement) → IsGraphOf g stated → JoinsLog log stated result)
    × KeepsJoined (record before { graph = None }) after log result status
