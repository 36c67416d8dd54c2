-- The number that a text denotes, as the standard library reads it.
use Rattle.std.proofs.Common.{◌≡◌, ◌≤◌, ℕ, Bool, true, false, Some, None, Ok, Err, List, refl, ap}
use Rattle.std.proofs.Common.{arith}
use Rattle.std.specs.Str.Parse.{ParsesUnsigned, digits_value, without_leading_plus}
use Rattle.clap.specs.ValueTests.{is_unsigned_in}
use Rattle.clap.specs.declared.builder.value_parser.ValueParser.TheVariants.{Unsigned}
use Rattle.clap.proofs.ValueTestLemmas.{accepts-Accepts, Accepts-accepts}
use Rattle.nj_questions.specs.Fields.{given_number}

pub meant-some : (text : List ℕ) (number : ℕ) → ParsesUnsigned {E = ℕ} 64 10 text (Ok number)
    → Some number ≡ given_number text
meant-some text number parsed =
    let small = parsed.0.1 in
    let least : digits_value 10 (without_leading_plus text) ≤ 18446744073709551615 = omega arith in
    let inside : is_unsigned_in 0 18446744073709551615 text ≡ true =
    Accepts-accepts false (Unsigned 0 18446744073709551615) text (parsed.0.0, small, omega arith, least) in
    rw inside (ap Some parsed.1)

pub meant-none : (text : List ℕ) → ParsesUnsigned {E = ℕ} 64 10 text (Err 0) → None ≡ given_number text
meant-none text parsed = by_test (is_unsigned_in 0 18446744073709551615 text) refl
  where
    by_test : (b : Bool) → is_unsigned_in 0 18446744073709551615 text ≡ b → None ≡ given_number text
    by_test false e = rw e refl
    by_test true e =
        let inside = accepts-Accepts false (Unsigned 0 18446744073709551615) text e in
        absurd (parsed (inside.0, inside.1))
