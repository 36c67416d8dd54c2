-- Numbers with or without leading zeros.
use Rattle.std.proofs.Common.{◌≡◌, ◌≢◌, ℕ, ◌^◌, ◌<◌, Bool, true, false, eqb, leb, Some, None, Ok, Err, List}
use Rattle.std.proofs.Common.{[], ◌∷◌, length, get_or, refl, sym, ap, ◌∙◌, arith}
use Rattle.std.specs.Str.{all_ascii_digits}
use Rattle.std.specs.Str.Parse.{digits_value, ParsesUnsigned}
use Rattle.std.proofs.lemmas.Bool.Decides.{nat_tests}
use Rattle.std.proofs.lemmas.Str.Parse.{IsNumeralModel, numerals_by_value, tells_all_ascii_digits}
use Rattle.std.proofs.lemmas.Str.Parse.{parse_plain}
use Rattle.nj_args.specs.Numbers.{is_digits, given_number}
use Rattle.nj_args.specs.Inside.Held.{begins_with_plus}

own : IsNumeralModel (λ ds. all_ascii_digits ds ≡ true) (digits_value 10)
own = numerals_by_value (λ ds. all_ascii_digits ds ≡ true) tells_all_ascii_digits

are_digits : (text : List ℕ) → all_ascii_digits text ≡ true → 0 < length text → is_digits text ≡ true
are_digits [] digits some = absurd (omega arith)
are_digits (digit ∷ text) digits some = digits

digits_are : (text : List ℕ) → is_digits text ≡ true → (all_ascii_digits text ≡ true) × (0 < length text)
digits_are [] digits = absurd (cc)
digits_are (digit ∷ text) digits = (digits, omega arith)

no_plus : (text : List ℕ) → begins_with_plus text ≡ false → get_or text 0 0 ≢ 43
no_plus [] plain = λ e. omega arith
no_plus (first ∷ text) plain = λ e. let x : eqb 43 43 ≡ false = ap (λ b. eqb b 43) (sym e) ∙ plain in cc

pub meant-some : (text : List ℕ) (number : ℕ) → ParsesUnsigned {E = ℕ} 64 10 text (Ok number)
    → begins_with_plus text ≡ false → Some number ≡ given_number text
meant-some text number parsed plain =
    let meant = parse_plain own {E = ℕ} 64 text (Ok number) parsed (no_plus text plain) in
    let digits = are_digits text meant.0.0 meant.0.1 in
    let small : leb (digits_value 10 text) 18446744073709551615 ≡ true = grind (arith, nat_tests, meant.0.2)
    in
    rw (digits, small) (ap Some meant.1)

pub meant-none : (text : List ℕ) → ParsesUnsigned {E = ℕ} 64 10 text (Err 0) → begins_with_plus text ≡ false
    → None ≡ given_number text
meant-none text parsed plain = by_tests (is_digits text) (leb (digits_value 10 text) 18446744073709551615)
    refl refl
  where
    by_tests : (s t : Bool) → is_digits text ≡ s → leb (digits_value 10 text) 18446744073709551615 ≡ t
        → None ≡ given_number text
    by_tests false t a b = rw a refl
    by_tests true false a b = rw (a, b) refl
    by_tests true true a b =
        let digits = digits_are text a in
        let small : digits_value 10 text < 2 ^ 64 = grind (arith, nat_tests, b) in
        absurd (parse_plain own {E = ℕ} 64 text (Err 0) parsed (no_plus text plain)
        (digits.0, digits.1, small))
