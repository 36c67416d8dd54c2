use Rattle.std.proofs.Common.{◌≡◌, List, take}
use Rattle.nj_stale.specs.Numbered.{evidence_of}
use Rattle.nj_stale.specs.States.{State, IsStateOf}
use Rattle.nj_stale.specs.declared.evidence.EdgeFacts.{EdgeFacts}
use Rattle.nj_state.specs.Judged.{IsJudged}
use Rattle.nj_ask.specs.StaleObjects.{stale_objects}
use Rattle.nj_ask.proofs.stale_objects.stale_objects.Given as goal

abbrev pub invariant-edges : goal.invariant-edges
invariant-edges l =
    (facts : List EdgeFacts) (s : State) → IsJudged l.graph facts l.log.lines l.build
    → IsStateOf (evidence_of l.graph facts l.build.times.items l.log.lines) s
    → l.text.items ≡ stale_objects (evidence_of l.graph facts l.build.times.items l.log.lines) s
    (take l.item-index l.stale)
