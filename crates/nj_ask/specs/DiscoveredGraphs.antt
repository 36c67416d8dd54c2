-- A graph with the inputs that builds discovered, and the edges that a change of files touches.
use Rattle.std.specs.Prelude.{◌≡◌, ℕ, Bool, true, false, Option, Some, None, Result, Ok, Err, List, [], ◌++◌, map, length, codes}
use Rattle.std.specs.List.{flat_map, range_with_len}
use Rattle.nj_graph.specs.declared.GraphFault.{GraphFault}
use Rattle.nj_graph.specs.declared.Verdict.{Verdict}
use Rattle.nj_graph.specs.declared.Verdict.TheVariants.{Known, Unknown, Faulty}
use Rattle.nj_discovered.specs.Faults.{error_text}
use Rattle.nj_discovered.specs.declared.verdict.DepfileError.{DepfileError}
use Rattle.nj_discovered.specs.declared.verdict.Unknown.TheVariants.{NoTime}
use Rattle.nj_graph.specs.Changes.{IsAffected}
use Rattle.nj_graph.specs.DepsLogs.{JoinsNamed}
use Rattle.nj_graph.specs.Dirty.{IsDirty}
use Rattle.nj_graph.specs.Discovering.{AreDiscovered}
use Rattle.nj_graph.specs.Edges.{EdgePaths, edge_at, edges_from, first_output}
use Rattle.nj_graph.specs.EdgeList.{edges_read, paths_of_edges}
use Rattle.nj_faults.specs.Faults.{no_memory}
use Rattle.nj_graph.specs.Graph.{edges_of, late_text_of}
use Rattle.nj_graph.specs.ReadingList.{ReadStatement}
use Rattle.nj_deps.specs.Logs.{LogModel}
use Rattle.nj_discovered.specs.Discoveries.{DiscoveriesModel, FoundModel, discovery_at, found_at}
use Rattle.nj_discovered.specs.Times.{DeclaredTimes}
use Rattle.nj_scope.specs.Sources.{SourceState}
use Rattle.nj_tools.specs.declared.DiscoveryState.{DiscoveryState}
use Rattle.nj_tools.specs.declared.DiscoveryState.TheVariants as state
use Rattle.nj_tools.specs.declared.EdgeDiscovery.{EdgeDiscovery}
use Rattle.nj_ask.specs.declared.discovered.Discovered.{Discovered}
use Rattle.nj_ask.specs.declared.discovered.DiscoveredGraph.{DiscoveredGraph}
use Rattle.nj_ask.specs.Affected.{line}

-- ---- what is not known

-- the discovered inputs of an edge are not known
abbrev pub is_doubtful : Verdict → Bool
is_doubtful Known = false
is_doubtful (Unknown reason) = true
is_doubtful (Faulty fault) = true

-- the depfile of an edge has a fault
abbrev pub is_faulty : Verdict → Bool
is_faulty (Faulty fault) = true
is_faulty verdict = false

-- the edges whose depfiles have a fault, by number
abbrev pub faulty_edges : DiscoveriesModel → List ℕ
faulty_edges found = edges_from 0 (λ edge. is_faulty edge.verdict) found.edges

-- the edges whose discovered inputs are not known, by number
abbrev pub doubtful_edges : DiscoveriesModel → List ℕ
doubtful_edges found = edges_from 0 (λ edge. is_doubtful edge.verdict) found.edges

-- ---- what is said of it

-- the fault of a depfile, after the value of `depfile` of its edge
abbrev pub depfile_text : List ReadStatement → (edge : ℕ) → DepfileError → List ℕ
depfile_text entries edge fault = late_text_of entries edge (codes "depfile") ++ codes ": " ++ error_text fault

-- the line about an output whose time cannot be read
abbrev pub no_time_line : (output : Option (List ℕ)) → List ℕ
no_time_line None = []
no_time_line (Some output) = line (output ++ codes ": its time cannot be read")

-- The line about an edge for whose first output no time can be read, or whose depfile has a fault. Other edges have none.
abbrev pub doubt_line : List ReadStatement → (edge : ℕ) → Verdict → List ℕ
doubt_line entries edge (Unknown NoTime) = no_time_line (first_output (edge_at (paths_of_edges (edges_read entries)) edge))
doubt_line entries edge (Faulty fault) = line (depfile_text entries edge fault)
doubt_line entries edge verdict = []

-- the lines about all edges, by number
abbrev pub doubt_lines : List ReadStatement → DiscoveriesModel → List ℕ
doubt_lines entries found =
    flat_map (λ edge. doubt_line entries edge (found_at found edge).verdict) (range_with_len 0 (length found.edges))

-- the text of the fault of a depfile, if any
abbrev pub fault_text : List ReadStatement → (edge : ℕ) → Verdict → List ℕ
fault_text entries edge (Faulty fault) = depfile_text entries edge fault
fault_text entries edge verdict = []

-- the texts of the faults of depfiles, by edge number
abbrev pub fault_texts : List ReadStatement → DiscoveriesModel → List (List ℕ)
fault_texts entries found = map (λ edge. fault_text entries edge (found_at found edge).verdict) (faulty_edges found)

-- ---- what is known, edge by edge

-- whether the inputs that builds discovered are known
abbrev pub state_of : Verdict → DiscoveryState
state_of Known = state.Known
state_of (Unknown reason) = state.Unknown reason
state_of (Faulty fault) = state.Faulty

-- what builds discovered for an edge: how many implicit inputs it has without the discovered ones, and whether the discovered ones are
-- known
abbrev pub edge_discovery : EdgePaths → FoundModel → EdgeDiscovery
edge_discovery e found = record { stated_inputs = length e.implicit_inputs; state = state_of found.verdict }

-- the same for each edge, by number
abbrev pub edge_discoveries : List EdgePaths → DiscoveriesModel → List EdgeDiscovery
edge_discoveries edges found =
    map (λ edge. edge_discovery (edge_at edges edge) (found_at found edge)) (range_with_len 0 (length edges))

-- ---- its joining

-- Discovered inputs, by a deps log, depfiles and times, are joined to the graph of the given statements. The lists have the edges whose
-- discovered inputs are not known, and those whose depfiles have a fault, with what is said of both; and for each edge how many implicit
-- inputs it had, and whether the discovered ones are known. Or the joined inputs have a dependency cycle; or memory ran out.
pub data JoinsDiscovered (before after : SourceState) (times : DeclaredTimes) (log : LogModel) (stated : List ReadStatement) :
    Result Discovered GraphFault → Type 0 where
  joined : {known : Discovered} {found : DiscoveriesModel} → AreDiscovered before after times log stated found
      → JoinsNamed (λ edge. (discovery_at found edge).inputs) stated (Ok known.graph)
      → map (λ edge. edge.0) known.doubts.edges.items ≡ doubtful_edges found
      → map (λ fault. fault.edge.0) known.doubts.faults.items ≡ faulty_edges found
      → map (λ fault. fault.text.items) known.doubts.faults.items ≡ fault_texts stated found
      → known.doubts.lines.items ≡ doubt_lines stated found
      → known.doubts.discoveries.items ≡ edge_discoveries (paths_of_edges (edges_read stated)) found
      → JoinsDiscovered before after times log stated (Ok known)
  refused : {fault : GraphFault} {found : DiscoveriesModel} → AreDiscovered before after times log stated found
      → JoinsNamed (λ edge. (discovery_at found edge).inputs) stated (Err fault) → JoinsDiscovered before after times log stated (Err fault)
  out_of_memory : JoinsDiscovered before after times log stated (Err no_memory)

-- ---- what a change touches

-- With discovered inputs, the edges that are to be built again where the given files changed and the given edges are dirty by themselves;
-- without, those that have the files, or outputs of such edges, as inputs of any kind.
abbrev pub TouchedBy : (has_discovered : Bool) → List EdgePaths → (changed : List (List ℕ)) → (unknown : List ℕ) → (edge : ℕ) → Type 0
TouchedBy true edges changed unknown edge = IsDirty edges changed unknown edge
TouchedBy false edges changed unknown edge = IsAffected edges changed edge

-- an edge that a change of the given files touches
abbrev pub IsTouched : DiscoveredGraph → (changed : List (List ℕ)) → (edge : ℕ) → Type 0
IsTouched known changed edge =
    TouchedBy known.has_discovered (edges_of known.graph) changed (map (λ edge. edge.0) known.unknown.items) edge
