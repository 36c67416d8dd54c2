-- The graph that a question is about: the files that its options name, joined with what builds discovered.
use Rattle.std.specs.Prelude.{◌≡◌, ℕ, Bool, true, false, ◌||◌, is_some, Result, Ok, Err, List, [], ◌++◌, codes, length, map}
use Rattle.std.specs.List.{range_with_len}
use Rattle.nj_scope.specs.ReadingList.{ReadStatement}
use Rattle.nj_scope.specs.Sources.{SourceState}
use Rattle.nj_faults.specs.FaultLines.{fault_line_for}
use Rattle.nj_deps.specs.Logs.{LogModel}
use Rattle.nj_discovered.specs.Times.{DeclaredTimes}
use Rattle.nj_graph.specs.declared.GraphFault.{GraphFault}
use Rattle.nj_graph.specs.Edges.{EdgePaths, edge_at}
use Rattle.nj_graph.specs.Graph.{GraphModel, IsGraphOf, edges_of}
use Rattle.nj_graph.specs.Joining.{Joins, JoinsPresent}
use Rattle.nj_graph.specs.Loads.{LoadedModel, Loads}
use Rattle.nj_graph.specs.Undeclared.{AreUndeclared, InputOfEdge}
use Rattle.nj_audit.specs.LoggedInputs.{inputs_in}
use Rattle.nj_questions.specs.Questions.{AskedGraph}
use Rattle.nj_ask.specs.declared.discovered.Discovered.{Discovered}
use Rattle.nj_ask.specs.declared.discovered.DiscoveredGraph.{DiscoveredGraph}
use Rattle.nj_ask.specs.Affected.{line}
use Rattle.nj_ask.specs.DiscoveredGraphs.{JoinsDiscovered}
use Rattle.nj_ask.specs.Endings.{fault_line}
use Rattle.nj_ask.specs.LogsRead.{LacksLog, ReadsLog, log_path}

-- ---- the manifest

-- the inputs that builds discovered are requested
abbrev pub asks_discovered : AskedGraph → Bool
asks_discovered asked = asked.deps || is_some asked.log

-- The main file and all that it includes; with `dyndep` then all dyndep files, and where discovered inputs are requested the dyndep files
-- that are present.
pub data ReadsManifest (asked : AskedGraph) (times : DeclaredTimes) (before after : SourceState) :
    Result LoadedModel GraphFault → Type 0 where
  refused : {fault : GraphFault} → Loads asked.file before after (Err fault) → ReadsManifest asked times before after (Err fault)
  plain : {loaded : LoadedModel} → asked.dyndep ≡ false → asks_discovered asked ≡ false → Loads asked.file before after (Ok loaded)
      → ReadsManifest asked times before after (Ok loaded)
  joined : {between : SourceState} {loaded : LoadedModel} {stated : List ReadStatement} {result : Result LoadedModel GraphFault}
      → asked.dyndep ≡ true → Loads asked.file before between (Ok loaded) → IsGraphOf loaded.graph stated
      → Joins stated loaded.files between after result → ReadsManifest asked times before after result
  joined_present : {between : SourceState} {loaded : LoadedModel} {stated : List ReadStatement} {result : Result LoadedModel GraphFault}
      → asked.dyndep ≡ false → asks_discovered asked ≡ true → Loads asked.file before between (Ok loaded)
      → IsGraphOf loaded.graph stated → JoinsPresent times stated loaded.files between after result
      → ReadsManifest asked times before after result

-- how many implicit inputs each edge has, by number
abbrev pub implicit_counts : List EdgePaths → List ℕ
implicit_counts edges = map (λ edge. length (edge_at edges edge).implicit_inputs) (range_with_len 0 (length edges))

-- how many implicit inputs the manifest itself has for each edge, before dyndep files and discovered inputs are joined
pub record AreStatedInputs (asked : AskedGraph) (before : SourceState) (counts : List ℕ) : Type 0 where
  pub after : SourceState
  pub loaded : LoadedModel
  pub loads : Loads asked.file before after (Ok loaded)
  pub counts_are : counts ≡ implicit_counts (edges_of loaded.graph)

-- ---- with what builds discovered

-- the states of two sources: one of manifests and dyndep files, and one of the files that builds write, the deps log and depfiles
pub record Sources : Type 0 where
  pub files : SourceState
  pub built : SourceState

-- the states of both sources
abbrev pub sources_of : (files built : SourceState) → Sources
sources_of files built = record { files = files; built = built }

-- the graph of a manifest alone
pub record IsDeclared (graph : GraphModel) (known : DiscoveredGraph) : Type 0 where
  pub graph_is : known.graph ≡ graph
  pub has_discovered : known.has_discovered ≡ false
  pub unknown : known.unknown.items ≡ []
  pub faults : known.faults.items ≡ []
  pub discoveries : known.discoveries.items ≡ []
  pub caveats : known.caveats.items ≡ []
  pub undeclared : known.undeclared.items ≡ []

-- a graph with discovered inputs, and what is not known of the inputs and of the log
pub record IsDiscovered (found : Discovered) (caveat : List ℕ) (known : DiscoveredGraph) : Type 0 where
  pub graph_is : known.graph ≡ found.graph
  pub has_discovered : known.has_discovered ≡ true
  pub unknown : known.unknown ≡ found.doubts.edges
  pub faults : known.faults ≡ found.doubts.faults
  pub discoveries : known.discoveries ≡ found.doubts.discoveries
  pub caveats : known.caveats.items ≡ caveat ++ found.doubts.lines.items

-- the inputs that the log names and that edges do not declare, by their paths
abbrev pub undeclared_in : DiscoveredGraph → List InputOfEdge
undeclared_in known = inputs_in known.graph known.undeclared.items

-- They are found by the statements of the manifest, if they are requested; else there are none.
abbrev pub FindsUndeclared : (asked : Bool) → LogModel → List ReadStatement → List InputOfEdge → Type 0
FindsUndeclared true log stated inputs = AreUndeclared log stated inputs
FindsUndeclared false log stated inputs = inputs ≡ []

-- The graph of the given options; `undeclared` says whether undeclared inputs are requested.
pub data KnowsGraph (asked : AskedGraph) (undeclared : Bool) (times : DeclaredTimes) (old new : Sources) (known : DiscoveredGraph)
    : Type 0 where
  declared : {loaded : LoadedModel} → asks_discovered asked ≡ false → ReadsManifest asked times old.files new.files (Ok loaded)
      → AreStatedInputs asked old.files known.stated_inputs.items → new.built ≡ old.built → IsDeclared loaded.graph known
      → KnowsGraph asked undeclared times old new known
  discovered : {loaded : LoadedModel} {stated : List ReadStatement} {between : SourceState} {log : LogModel} {caveat : List ℕ}
      {found : Discovered} → asks_discovered asked ≡ true → ReadsManifest asked times old.files new.files (Ok loaded)
      → AreStatedInputs asked old.files known.stated_inputs.items
      → IsGraphOf loaded.graph stated → ReadsLog asked.log stated old.built between log caveat
      → JoinsDiscovered between new.built times log stated (Ok found) → IsDiscovered found caveat known
      → FindsUndeclared undeclared log stated (undeclared_in known) → KnowsGraph asked undeclared times old new known

-- the line of a fault of a graph with the inputs of the deps log at a path, and of depfiles
abbrev pub discovered_line : (path : List ℕ) → GraphFault → List ℕ
discovered_line path fault =
    line (fault_line_for (codes "ninja-graph") fault ++ codes ", by the inputs of " ++ path ++ codes " and of depfiles")

-- Why there is no graph: a fault of the manifest or of dyndep files, or of the deps log, or of the inputs that builds discovered.
pub data LacksGraph (asked : AskedGraph) (times : DeclaredTimes) (old new : Sources) : (line : List ℕ) → Type 0 where
  by_manifest : {fault : GraphFault} → ReadsManifest asked times old.files new.files (Err fault) → new.built ≡ old.built
      → LacksGraph asked times old new (fault_line fault)
  by_log : {loaded : LoadedModel} {stated : List ReadStatement} {line : List ℕ} → asks_discovered asked ≡ true
      → ReadsManifest asked times old.files new.files (Ok loaded) → IsGraphOf loaded.graph stated
      → LacksLog asked.log stated old.built new.built line → LacksGraph asked times old new line
  by_discovered : {loaded : LoadedModel} {stated : List ReadStatement} {between : SourceState} {log : LogModel} {caveat : List ℕ}
      {fault : GraphFault} → asks_discovered asked ≡ true → ReadsManifest asked times old.files new.files (Ok loaded)
      → IsGraphOf loaded.graph stated → ReadsLog asked.log stated old.built between log caveat
      → JoinsDiscovered between new.built times log stated (Err fault)
      → LacksGraph asked times old new (discovered_line (log_path asked.log stated) fault)
