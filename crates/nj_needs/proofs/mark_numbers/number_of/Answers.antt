use Rattle.std.proofs.Common.{◌≡◌, true, sym, ap, ◌∙◌}
use Rattle.nj_needs.specs.Inside.MarkScanning.{has_plain_front}
use Rattle.nj_needs.proofs.MarkNumerals.{number-parsed, number-not_parsed}
use Rattle.nj_needs.proofs.mark_numbers.number_of.Goals as goal

pub returns-in-Ok-clause-ok : goal.returns-in-Ok-clause-ok
returns-in-Ok-clause-ok c =
    let front : has_plain_front c.args.part.now ≡ true =
    ap has_plain_front (sym c.as_bytes.ensures.value) ∙ sym c.has_plain_front.ensures
    ∙ c.if-not-has_plain_front.false in
    number-parsed c.args.part.now c.in-Ok.number c.in-Ok.ensures.value.0 front

pub returns-in-Err-clause-err : goal.returns-in-Err-clause-err
returns-in-Err-clause-err c =
    let front : has_plain_front c.args.part.now ≡ true =
    ap has_plain_front (sym c.as_bytes.ensures.value) ∙ sym c.has_plain_front.ensures
    ∙ c.if-not-has_plain_front.false in
    number-not_parsed c.args.part.now c.in-Err.ensures.value.0 front
