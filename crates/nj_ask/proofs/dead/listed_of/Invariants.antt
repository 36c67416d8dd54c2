use Rattle.std.proofs.Common.{map, take}
use Rattle.nj_ask.specs.DeadAnswers.{ListsDead}
use Rattle.nj_ask.proofs.dead.listed_of.Given as goal

abbrev pub invariant-outputs : goal.invariant-outputs
invariant-outputs g l = ListsDead (g.T.FileTimes.times l.times) l.is_json
    (map (λ output. output.now) (take l.output-index l.outputs)) l.text.items l.warnings.items
