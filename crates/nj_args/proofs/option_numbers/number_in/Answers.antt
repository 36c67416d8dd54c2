use Rattle.std.proofs.Common.{◌≡◌, false, sym, ap, ◌∙◌}
use Rattle.nj_args.specs.Inside.Held.{begins_with_plus}
use Rattle.nj_args.proofs.Numerals.{meant-some, meant-none}
use Rattle.nj_args.proofs.option_numbers.number_in.Goals as goal

pub returns-in-Ok : goal.returns-in-Ok
returns-in-Ok c =
    let plain : begins_with_plus c.args.text.now ≡ false =
    ap begins_with_plus (sym c.as_bytes.ensures.value) ∙ sym c.has_plus.ensures ∙ c.if-has_plus.false in
    meant-some c.args.text.now c.in-Ok.number c.in-Ok.ensures.value.0 plain

pub returns-in-Err : goal.returns-in-Err
returns-in-Err c =
    let plain : begins_with_plus c.args.text.now ≡ false =
    ap begins_with_plus (sym c.as_bytes.ensures.value) ∙ sym c.has_plus.ensures ∙ c.if-has_plus.false in
    meant-none c.args.text.now c.in-Err.ensures.value.0 plain
