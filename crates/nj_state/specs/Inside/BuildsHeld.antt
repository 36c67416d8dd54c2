-- A build that was judged by times that were looked up.
use Rattle.std.specs.Prelude.{◌≡◌, ℕ, List}
use Rattle.nj_edges.specs.EdgeGraphs.{EdgeGraph}
use Rattle.nj_build_log.specs.Logs.{LineModel}
use Rattle.nj_stale.specs.declared.evidence.EdgeFacts.{EdgeFacts}
use Rattle.nj_state.specs.declared.judged.JudgedBuild.{JudgedBuild}
use Rattle.nj_state.specs.Judged.{HasCounts, IsJudged}

-- a build that is judged by the given times of files
pub record IsJudgedBy (g : EdgeGraph) (facts : List EdgeFacts) (lines : List LineModel) (times : List ℕ) (build : JudgedBuild) : Type 0 where
  pub times_are : build.times.items ≡ times
  pub counts : HasCounts g build
  pub judged : IsJudged g facts lines build
