use Rattle.std.proofs.Common.{sym, ◌∙◌}
use Rattle.nj_text.proofs.Digits.{read-digit, read-other, read-all}
use Rattle.nj_text.proofs.numbers.leading_number.Goals as goal

pub returns-then-not-is_digit : goal.returns-then-not-is_digit
returns-then-not-is_digit c = read-other c.args.text.now c.loop-byte.byte-index c.loop-byte.number
    c.loop-byte-test.true c.loop-byte.invariant (sym c.is_digit.ensures ∙ c.if-not-is_digit.true)

pub loop-byte-preserved : goal.loop-byte-preserved
loop-byte-preserved c =
    read-digit c.args.text.now c.loop-byte.byte-index c.loop-byte.number c.with_digit.result
    c.loop-byte-test.true c.loop-byte.invariant (sym c.is_digit.ensures ∙ c.if-not-is_digit.false)
    (rw (← c.unwrap_or.ensures) c.with_digit.ensures)

pub returns : goal.returns
returns c = read-all c.args.text.now c.loop-byte.byte-index c.loop-byte.number c.loop-byte-test.false
    c.loop-byte.invariant
