use Rattle.std.proofs.Common.{arith, ◌∙◌}
use Rattle.nj_build_log.proofs.TextLemmas.{room, one_read}
use Rattle.nj_build_log.proofs.hashed_text.HashedText.number_at.Goals as goal

pub overflow_mul-number : goal.overflow_mul-number
overflow_mul-number c =
    let small = room c.bytes.passed c.bytes.number c.bytes.invariant.fits
    (omega (arith, c.requires.at_most_eight)) in
    omega (arith, small)

pub overflow_add-number : goal.overflow_add-number
overflow_add-number c =
    let small = room c.bytes.passed c.bytes.number c.bytes.invariant.fits
    (omega (arith, c.requires.at_most_eight)) in
    omega (arith, small, c.from.ensures, c.byte_at-byte.type_inv)

pub bytes-preserved : goal.bytes-preserved
bytes-preserved c =
    one_read c.args.self.now c.args.place c.args.count c.bytes.passed c.bytes.number c.from.result
    c.requires.within c.bytes-test.true (omega (arith, c.from.ensures, c.byte_at-byte.type_inv))
    (c.from.ensures ∙ c.byte_at-byte.ensures) c.bytes.invariant
