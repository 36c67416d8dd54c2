-- What is found of a whole build.
use Rattle.std.specs.Prelude.{◌≡◌, ◌<◌, ℕ, None, List, length, slice_index_or}
use Rattle.nj_edges.specs.EdgeGraphs.{EdgeGraph}
use Rattle.nj_build_log.specs.Logs.{LineModel}
use Rattle.nj_stale.specs.States.{State, IsStateOf}
use Rattle.nj_stale.specs.Numbered.{AreLentBy, evidence_of}
use Rattle.nj_stale.specs.declared.evidence.EdgeFacts.{EdgeFacts}
use Rattle.nj_state.specs.declared.judged.JudgedBuild.{JudgedBuild}

-- there is a time for each file, and a lent time for each edge
pub record HasCounts (g : EdgeGraph) (build : JudgedBuild) : Type 0 where
  pub time_count : length build.times.items ≡ length g.files
  pub lent_count : length build.lent.items ≡ length g.edges

-- each edge has the reason and the lent time that it has in the state of the build with these times
pub record IsJudged (g : EdgeGraph) (facts : List EdgeFacts) (lines : List LineModel) (build : JudgedBuild) : Type 0 where
  pub reasons_are : (s : State) → IsStateOf (evidence_of g facts build.times.items lines) s
      → (edge : ℕ) → edge < length g.edges → slice_index_or build.reasons.items edge None ≡ s.reason edge
  pub lent_are : (s : State) → IsStateOf (evidence_of g facts build.times.items lines) s → AreLentBy g.edges s build.lent.items
