use Rattle.std.proofs.Common.{◌^◌, ap, ◌∙◌, w32, w64, FitsSigned, to_z, pos, rules}
use Rattle.std.specs.Prelude.{nat_abs}
use Rattle.std.specs.Int.{int_rem_euclid, int_wrap}
use Rattle.std.proofs.lemmas.Int.{to_z-of_z}
use Rattle.nj_build_log.proofs.numbers.int_in.Goals as goal

pub returns : goal.returns
unfolding int_wrap
returns c =
    let of_long : FitsSigned w64 c.long_in.result = search rules in
    let of_low : FitsSigned w64 c.rem_euclid-low.result = search rules in
    let of_int : FitsSigned w32 c.cast_signed.result = search rules in
    let long = to_z-of_z w64 c.long_in.result of_long ∙ c.long_in.ensures in
    let low = to_z-of_z w64 c.rem_euclid-low.result of_low
    ∙ (c.rem_euclid-low.ensures.value ∙ ap (λ z. int_rem_euclid z (pos (2 ^ 32))) long) in
    to_z-of_z w32 c.cast_signed.result of_int ∙ (c.cast_signed.ensures ∙ ap (λ z. to_z w32 (nat_abs z)) low)
