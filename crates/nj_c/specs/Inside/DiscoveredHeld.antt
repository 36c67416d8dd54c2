-- How discovered inputs are joined.
use Rattle.std.specs.Prelude.{◌≡◌, ◌⊎◌, ⊤, ℕ, List, Option, Some, None, Result, Ok, Err}
use Rattle.nj_deps.specs.Logs.{LogModel}
use Rattle.nj_scope.specs.ReadingList.{ReadStatement}
use Rattle.nj_scope.specs.declared.source.SourceFault.{SourceFault}
use Rattle.nj_scope.specs.declared.source.SourceFault.TheVariants.{Io, OutOfMemory}
use Rattle.nj_discovered.specs.Discoveries.{DiscoveriesModel, discovery_at}
use Rattle.nj_discovered.specs.declared.times.TimeFound.{TimeFound}
use Rattle.nj_discovered.specs.declared.times.TimeFound.TheVariants.{Time, NoAnswer}
use Rattle.nj_faults.specs.declared.fault.GraphFault.{GraphFault}
use Rattle.nj_faults.specs.Faults.{no_memory}
use Rattle.nj_graph.specs.Graph.{GraphModel, IsGraphOf}
use Rattle.nj_graph.specs.DepsLogs.{JoinsNamed}
use Rattle.nj_c.specs.declared.discovered_inputs.Joined.{Joined}
use Rattle.nj_c.specs.declared.session_state.Kept.{Kept}
use Rattle.nj_c.specs.declared.session_state.LogRead.{LogRead}
use Rattle.nj_c.specs.declared.status.Status.{Status}
use Rattle.nj_c.specs.declared.status.Status.TheVariants.{Done}
use Rattle.nj_c.specs.DiscoveredInputs.{unknown_of, FindsInputs}
use Rattle.nj_c.specs.SuppliedFiles.{Supplied}
use Rattle.nj_c.specs.JoinedLogs.{KeepsNumbers}
use Rattle.nj_c.specs.Inside.Results.{KeepsFault}

-- the answer of a source that has the given time
abbrev pub IsAnswer : TimeFound → Result (Option ℕ) SourceFault → Type 0
IsAnswer found (Ok time) = found ≡ Time time
IsAnswer found (Err Io) = found ≡ NoAnswer
IsAnswer found (Err OutOfMemory) = ⊤

-- what was discovered was joined to a graph: the result is the joined graph, or the fault
abbrev pub JoinsTo : GraphModel → DiscoveriesModel → Result Joined GraphFault → Type 0
JoinsTo g found (Ok joined) = (joined.unknown.items ≡ unknown_of found) × KeepsNumbers g joined.graph
    × ((stated : List ReadStatement) → IsGraphOf g stated → JoinsNamed (λ edge. (discovery_at found edge).inputs) stated (Ok joined.graph))
JoinsTo g found (Err fault) =
    (stated : List ReadStatement) → IsGraphOf g stated → JoinsNamed (λ edge. (discovery_at found edge).inputs) stated (Err fault)

-- what was discovered for a graph, and the graph to which it was joined; or the fault
abbrev pub FindsOr : GraphModel → (before after : Supplied) → LogModel → (times : List ℕ) → Result Joined GraphFault → Type 0
FindsOr g before after log times (Ok joined) =
    (found : DiscoveriesModel) × (joined.unknown.items ≡ unknown_of found) × KeepsNumbers g joined.graph
    × ((stated : List ReadStatement) → IsGraphOf g stated → FindsInputs g before after log times stated found (Ok joined.graph))
FindsOr g before after log times (Err fault) =
    (fault ≡ no_memory)
    ⊎ ((found : DiscoveriesModel)
    × ((stated : List ReadStatement) → IsGraphOf g stated → FindsInputs g before after log times stated found (Err fault)))

-- the graph, how far the log was read and which edges are unknown are kept, or the fault
abbrev pub KeepsFound : (before after : Kept) → LogRead → Result Joined GraphFault → Status → Type 0
KeepsFound before after read (Ok joined) status =
    (after ≡ record before { graph = Some joined.graph; log = Some read; unknown = joined.unknown }) × (status ≡ Done)
KeepsFound before after read (Err fault) status = KeepsFault (record before { graph = None }) after fault status
