-- A deps log that is joined to the graph of a session.
use Rattle.std.specs.Prelude.{◌≡◌, ◌≢◌, ◌⊎◌, ℕ, List, length, Some, None, Result, Ok, Err}
use Rattle.nj_deps.specs.declared.log_fault.DepsLogFault.TheVariants.{NoDepsLog, OtherVersion}
use Rattle.nj_deps.specs.Logs.{LogModel, IsLogOf, IsLogFault}
use Rattle.nj_scope.specs.ReadingList.{ReadStatement}
use Rattle.nj_scope.specs.Readings.{IsPrefix}
use Rattle.nj_faults.specs.declared.fault.GraphFault.{GraphFault}
use Rattle.nj_faults.specs.Faults.{no_memory}
use Rattle.nj_graph.specs.Graph.{GraphModel, IsGraphOf, edges_of, files_of}
use Rattle.nj_graph.specs.DepsLogs.{JoinsLog}
use Rattle.nj_c.specs.declared.session_state.Kept.{Kept}
use Rattle.nj_c.specs.declared.session_state.LogRead.{LogRead}
use Rattle.nj_c.specs.declared.status.Status.{Status}
use Rattle.nj_c.specs.declared.status.Status.TheVariants.{Done, Fault, NotLoaded, BadLog, OutOfMemory}

-- the bytes are not a deps log, or have another version than 4
abbrev pub IsNoLog : (bytes : List ℕ) → Type 0
IsNoLog bytes = IsLogFault bytes NoDepsLog ⊎ ((version : ℕ) × IsLogFault bytes (OtherVersion version))

-- how far a log was read
abbrev pub read_of : LogModel → LogRead
read_of log = record { size = log.size; is_whole = log.is_whole }

-- a log was joined to a graph: the result is the joined graph, or the fault
abbrev pub JoinsToGraph : GraphModel → LogModel → Result GraphModel GraphFault → Type 0
JoinsToGraph g log result = (stated : List ReadStatement) → IsGraphOf g stated → JoinsLog log stated result

-- edges and files keep their numbers, and new files come after them; and rules, pools and openings keep their places
abbrev pub KeepsNumbers : (before after : GraphModel) → Type 0
KeepsNumbers before after =
    (length (edges_of after) ≡ length (edges_of before)) × IsPrefix (files_of before) (files_of after)
    × (after.origins ≡ before.origins)

-- The session after joining, by its status. After a fault, and where an allocation failed, no graph is left.
abbrev pub JoinsDeps : (before after : Kept) → (bytes : List ℕ) → Status → Type 0
JoinsDeps before after bytes Done =
    (g : GraphModel) × (before.graph ≡ Some g)
    × ((joined : GraphModel) × (log : LogModel) × IsLogOf bytes log
    × (after ≡ record before { graph = Some joined; log = Some (read_of log) }) × KeepsNumbers g joined
    × JoinsToGraph g log (Ok joined))
JoinsDeps before after bytes Fault =
    (g : GraphModel) × (before.graph ≡ Some g)
    × ((fault : GraphFault) × (log : LogModel) × IsLogOf bytes log
    × (after ≡ record before { graph = None; fault = Some fault }) × (fault ≢ no_memory)
    × JoinsToGraph g log (Err fault))
JoinsDeps before after bytes NotLoaded = (before.graph ≡ None) × (after ≡ before)
JoinsDeps before after bytes BadLog = (before.graph ≢ None) × (after ≡ before) × IsNoLog bytes
JoinsDeps before after bytes OutOfMemory = (before.graph ≢ None) × (after ≡ record before { graph = None })
JoinsDeps before after bytes other = ⊥
