use Rattle.std.proofs.Common.{arith}
use Rattle.nj_build_log.proofs.DigitLemmas.{read-digit, read-other, read-all}
use Rattle.nj_build_log.proofs.numbers.leading_value.Goals as goal

pub returns-in-None : goal.returns-in-None
returns-in-None c = read-other c.args.base c.args.text.now c.digits.byte-index c.digits.value
    c.digits-test.true c.in-None.ensures.value c.digits.invariant.fits c.digits.invariant.read

pub digits-preserved : goal.digits-preserved
digits-preserved c =
    let digit = c.in-Some.ensures.value in
    let next = c.with_digit-value.ensures in
    record {
      fits = omega (arith, next);
      read = read-digit c.args.base c.args.text.now c.digits.byte-index c.digits.value c.in-Some.digit
          c.with_digit-value.result (omega (arith, c.requires.lower)) c.digits-test.true digit.0 digit.1
          next c.digits.invariant.read;
    }

pub returns : goal.returns
returns c = read-all c.args.base c.args.text.now c.digits.byte-index c.digits.value c.digits-test.false
    c.digits.invariant.fits c.digits.invariant.read
