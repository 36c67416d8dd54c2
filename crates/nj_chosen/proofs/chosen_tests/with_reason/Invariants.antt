use Rattle.std.proofs.Common.{map}
use Rattle.std.specs.Prelude.{option_map}
use Rattle.nj_chosen.specs.Reasons.{why_of}
use Rattle.nj_chosen.proofs.ChoiceLemmas.{Tells}
use Rattle.nj_chosen.proofs.chosen_tests.with_reason.Given as goal

abbrev pub invariant-reasons : goal.invariant-reasons
invariant-reasons l = Tells (map (λ reason. option_map why_of reason) l.reasons) l.number l.numbers.items
