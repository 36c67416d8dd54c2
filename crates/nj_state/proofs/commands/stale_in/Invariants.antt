use Rattle.std.proofs.Common.{◌≡◌, ◌<◌, ◌++◌, ℕ, List, length}
use Rattle.std.specs.List.{AllByRecursion}
use Rattle.nj_build_log.specs.Logs.{LineModel}
use Rattle.nj_needs.specs.Walks.{commands_of}
use Rattle.nj_stale.specs.Numbered.{evidence_of}
use Rattle.nj_stale.specs.declared.evidence.EdgeFacts.{EdgeFacts}
use Rattle.nj_state.specs.Judged.{IsJudged}
use Rattle.nj_state.specs.Stale.{AreStaleBy}
use Rattle.nj_state.proofs.commands.stale_in.Given as goal

abbrev pub invariant-commands : goal.invariant-commands
invariant-commands l = record {
  before : List ℕ;
  graph : l.needs.graph ≡ l.graph;
  split : before ++ l.needs.left ≡ commands_of l.graph l.targets;
  known : AllByRecursion (λ item. item.edge.0 < length l.graph.edges) l.stale.items;
  stale_are : (facts : List EdgeFacts) (lines : List LineModel) → IsJudged l.graph facts lines l.build
      → AreStaleBy (evidence_of l.graph facts l.build.times.items lines) before l.stale.items;
}

abbrev pub decreases-commands : goal.decreases-commands
decreases-commands l = length l.needs.left
