-- Laws of the listed edges.
use Rattle.std.specs.Prelude.{◌≡◌, ◌↔◌, ℕ, true, false, List, map, Contains}
use Rattle.nj_edges.specs.EdgeGraphs.{EdgeGraph}
use Rattle.nj_build_log.specs.Logs.{LineModel}
use Rattle.nj_graph.specs.declared.FileNo.{FileNo}
use Rattle.nj_needs.specs.Graphs.{is_phony, makers_of, row_of}
use Rattle.nj_needs.specs.Needs.{Reached}
use Rattle.nj_needs.specs.Walks.{commands_of}
use Rattle.nj_stale.specs.Laws.{HasNoCycle}
use Rattle.nj_stale.specs.Numbered.{evidence_of}
use Rattle.nj_stale.specs.States.{State, IsStateOf, is_stale}
use Rattle.nj_stale.specs.declared.evidence.EdgeFacts.{EdgeFacts}
use Rattle.nj_state.specs.declared.commands.StaleEdge.{StaleEdge}
use Rattle.nj_state.specs.Stale.{AreStaleBy}

-- the targets need the edge, and it has a command and a reason to run
pub record RunsFor (g : EdgeGraph) (targets : List FileNo) (s : State) (edge : ℕ) : Type 0 where
  pub needed : Reached (makers_of g) (row_of g targets) edge
  pub has_command : is_phony g edge ≡ false
  pub stale : is_stale s edge ≡ true

-- Exactly these edges are listed: each listed edge is needed, and has a command and a reason; and if nothing is listed, no needed edge
-- with a command is stale.
abbrev pub ListedEdgesAreTheStale : Type 0
ListedEdgesAreTheStale = (g : EdgeGraph) (facts : List EdgeFacts) (times : List ℕ) (lines : List LineModel) (targets : List FileNo)
    (stale : List StaleEdge) (s : State) → HasNoCycle (evidence_of g facts times lines) → IsStateOf (evidence_of g facts times lines) s
    → AreStaleBy (evidence_of g facts times lines) (commands_of g targets) stale
    → (edge : ℕ) → Contains (map (λ item. item.edge.0) stale) edge ↔ RunsFor g targets s edge
