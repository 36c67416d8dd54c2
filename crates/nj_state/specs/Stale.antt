-- The edges that Ninja would run, and why.
use Rattle.std.specs.Prelude.{◌≡◌, ℕ, Option, option_map, List, length}
use Rattle.std.specs.List.{filter_map}
use Rattle.nj_discovered.specs.Times.{DeclaredTimes}
use Rattle.nj_build_log.specs.Logs.{BuildLogModel}
use Rattle.nj_graph.specs.ReadingList.{ReadStatement}
use Rattle.nj_edges.specs.EdgeGraphs.{EdgeGraph}
use Rattle.nj_edges.specs.Edges.{EdgePaths, edge_at}
use Rattle.nj_graph.specs.declared.FileNo.{FileNo}
use Rattle.nj_needs.specs.Walks.{commands_of}
use Rattle.nj_stale.specs.States.{Evidence, State, IsStateOf, newest_place}
use Rattle.nj_stale.specs.Numbered.{evidence_of}
use Rattle.nj_state.specs.declared.commands.StaleEdge.{StaleEdge}
use Rattle.nj_state.specs.Facts.{facts_of, hash_version}
use Rattle.nj_state.specs.FileTimesFound.{HaveTimes}

-- an edge with its reason and the place of its newest input, if the edge is stale
abbrev pub stale_edge : List EdgePaths → State → (edge : ℕ) → Option StaleEdge
stale_edge edges s edge =
    let newest = newest_place s (edge_at edges edge) in
    option_map (λ reason. record { edge = record { 0 = edge }; reason = reason; newest = newest }) (s.reason edge)

-- those of the edges with the given numbers that are stale, in their order
abbrev pub stale_among : List EdgePaths → State → (numbers : List ℕ) → List StaleEdge
stale_among edges s numbers = filter_map (stale_edge edges s) numbers

-- those that are stale in the state of the build
abbrev pub AreStaleBy : Evidence → (numbers : List ℕ) → (stale : List StaleEdge) → Type 0
AreStaleBy known numbers stale = (s : State) → IsStateOf known s → stale ≡ stale_among known.edges s numbers

-- what is known before a build: the facts of the edges, the times of all files, and the lines of the build log
pub record IsEvidence (g : EdgeGraph) (entries : List ReadStatement) (unknown : List ℕ) (log : BuildLogModel) (declared : DeclaredTimes)
    (known : Evidence) : Type 0 where
  pub times : List ℕ
  pub times_are : HaveTimes declared g.files times
  pub known_is : known ≡ evidence_of g (facts_of entries unknown (hash_version log) (length g.edges)) times log.lines

-- The stale edges whose commands the targets need, in the order of their commands.
pub record AreStaleEdges (g : EdgeGraph) (entries : List ReadStatement) (unknown : List ℕ) (log : BuildLogModel)
    (declared : DeclaredTimes) (targets : List FileNo) (stale : List StaleEdge) : Type 0 where
  pub known : Evidence
  pub is : IsEvidence g entries unknown log declared known
  pub edges : AreStaleBy known (commands_of g targets) stale
