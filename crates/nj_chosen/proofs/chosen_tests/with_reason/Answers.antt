use Rattle.std.proofs.Common.{◌<◌, ◌≤◌, ◌∙◌, arith, length, map}
use Rattle.std.specs.Prelude.{option_map}
use Rattle.nj_chosen.specs.Reasons.{why_of}
use Rattle.nj_chosen.proofs.ChoiceLemmas.{some-at, tells-below, tells-next}
use Rattle.nj_chosen.proofs.chosen_tests.with_reason.Goals as goal

pub reasons-preserved : goal.reasons-preserved
reasons-preserved c =
    let below : c.reasons.number < length c.args.reasons.now = omega arith in
    tells-next (map (λ reason. option_map why_of reason) c.args.reasons.now) c.reasons.number c.is_some.result
    c.reasons.numbers.items c.push_if.new.numbers.items
    (c.is_some.ensures ∙ some-at c.args.reasons.now c.reasons.number c.index-reasons-number.result below
    c.index-reasons-number.is)
    c.in_ok-push_if.ensures c.reasons.invariant

pub returns-clause-known : goal.returns-clause-known
returns-clause-known c =
    let within : c.reasons.number ≤ length c.args.reasons.now = omega arith in
    tells-below (map (λ reason. option_map why_of reason) c.args.reasons.now) c.reasons.number
    (length c.args.reasons.now) c.reasons.numbers.items within c.reasons.invariant
