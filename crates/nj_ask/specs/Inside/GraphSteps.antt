-- How the graph of a question is read, step by step.
use Rattle.std.specs.Prelude.{◌≡◌, ◌<◌, ℕ, All, Bool, Option, Ok, Err, List, length}
use Rattle.nj_scope.specs.ReadingList.{ReadStatement}
use Rattle.nj_scope.specs.Sources.{SourceState}
use Rattle.nj_deps.specs.Logs.{LogModel}
use Rattle.nj_discovered.specs.Times.{DeclaredTimes}
use Rattle.nj_graph.specs.declared.GraphFault.{GraphFault}
use Rattle.nj_graph.specs.declared.undeclared.UndeclaredInput.{UndeclaredInput}
use Rattle.nj_graph.specs.Graph.{GraphModel, IsGraphOf, edges_of, files_of}
use Rattle.nj_graph.specs.Loads.{Loads}
use Rattle.nj_questions.specs.Questions.{AskedGraph}
use Rattle.nj_ask.specs.declared.discovered.Discovered.{Discovered}
use Rattle.nj_ask.specs.declared.discovered.DiscoveredGraph.{DiscoveredGraph}
use Rattle.nj_ask.specs.DiscoveredGraphs.{JoinsDiscovered}
use Rattle.nj_ask.specs.Endings.{fault_line}
use Rattle.nj_ask.specs.KnownGraphs.{FindsUndeclared, IsDiscovered, ReadsManifest, discovered_line, undeclared_in}
use Rattle.nj_ask.specs.LogsRead.{LacksLog, ReadsLog, log_path}

-- ---- the manifest

-- why the main file and all that it includes have no graph
pub record LacksMain (main : List ℕ) (before after : SourceState) (line : List ℕ) : Type 0 where
  pub fault : GraphFault
  pub line_is : line ≡ fault_line fault
  pub loads : Loads main before after (Err fault)

-- why a manifest has no graph
pub record LacksManifest (asked : AskedGraph) (times : DeclaredTimes) (before after : SourceState) (line : List ℕ) : Type 0 where
  pub fault : GraphFault
  pub line_is : line ≡ fault_line fault
  pub reads : ReadsManifest asked times before after (Err fault)

-- ---- with what builds discovered

-- a graph with discovered inputs
pub record Discovers (before after : SourceState) (times : DeclaredTimes) (log : LogModel) (caveat : List ℕ)
    (stated : List ReadStatement) (known : DiscoveredGraph) : Type 0 where
  pub found : Discovered
  pub joins : JoinsDiscovered before after times log stated (Ok found)
  pub is_found : IsDiscovered found caveat known

-- why discovered inputs do not form a graph
pub record LacksDiscovered (path : List ℕ) (before after : SourceState) (times : DeclaredTimes) (log : LogModel)
    (stated : List ReadStatement) (line : List ℕ) : Type 0 where
  pub fault : GraphFault
  pub line_is : line ≡ discovered_line path fault
  pub joins : JoinsDiscovered before after times log stated (Err fault)

-- the edges and files of the inputs are the graph's
abbrev pub AreInputsIn : GraphModel → List UndeclaredInput → Type 0
AreInputsIn g inputs =
    All (λ (input : UndeclaredInput). input.edge.0 < length (edges_of g)) inputs
    × All (λ (input : UndeclaredInput). input.file.0 < length (files_of g)) inputs

-- ---- by the named log or Ninja's own

-- a graph with discovered inputs, by the log that is read
pub record KnowsByLog (named : Option (List ℕ)) (undeclared : Bool) (before after : SourceState) (times : DeclaredTimes)
    (stated : List ReadStatement) (known : DiscoveredGraph) : Type 0 where
  pub between : SourceState
  pub log : LogModel
  pub caveat : List ℕ
  pub reads : ReadsLog named stated before between log caveat
  pub discovers : Discovers between after times log caveat stated known
  pub finds : FindsUndeclared undeclared log stated (undeclared_in known)

-- why there is no log, or why its inputs do not form a graph
pub data LacksByLog (named : Option (List ℕ)) (before after : SourceState) (times : DeclaredTimes) (stated : List ReadStatement) :
    (line : List ℕ) → Type 0 where
  no_log : {line : List ℕ} → LacksLog named stated before after line → LacksByLog named before after times stated line
  no_graph : {line : List ℕ} {between : SourceState} {log : LogModel} {caveat : List ℕ}
      → ReadsLog named stated before between log caveat
      → LacksDiscovered (log_path named stated) between after times log stated line
      → LacksByLog named before after times stated line

-- it is the graph of some statements
abbrev pub HasStatements : GraphModel → Type 0
HasStatements g = (entries : List ReadStatement) × IsGraphOf g entries
