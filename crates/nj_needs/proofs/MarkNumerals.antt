-- Numbers without leading zeros.
use Rattle.std.proofs.Common.{rules, ◌≡◌, ◌≢◌, ℕ, zero, suc, ◌^◌, ◌<◌, Bool, true, false, not, eqb, leb, Some}
use Rattle.std.proofs.Common.{None}
use Rattle.std.proofs.Common.{Ok, Err, List, [], ◌∷◌, ◌++◌, length, get_or, refl, sym, ap, ◌∙◌, subst, arith}
use Rattle.std.specs.Prelude.{◌&&◌, decimal, codes}
use Rattle.std.specs.Char.{is_ascii_digit}
use Rattle.std.specs.Str.{all_ascii_digits}
use Rattle.std.specs.Str.Parse.{digits_value, ParsesUnsigned}
use Rattle.std.proofs.lemmas.Bool.Decides.{nat_tests}
use Rattle.std.proofs.lemmas.Str.Parse.{IsNumeralModel, numerals_by_value, tells_all_ascii_digits}
use Rattle.std.proofs.lemmas.Str.Parse.{parse_plain}
use Rattle.std.proofs.lemmas.Fmt.{digits_decimal, digits_value-decimal, decimal-digits_value}
use Rattle.std.proofs.lemmas.Fmt.{decimal_nonempty, first_decimal}
use Rattle.std.specs.List.{list_any}
use Rattle.std.specs.Fmt.{digits}
use Rattle.nj_needs.specs.MarkTexts.{is_numeral, number_of}
use Rattle.nj_needs.specs.Inside.MarkScanning.{is_dot, has_plain_front}

own : IsNumeralModel (λ ds. all_ascii_digits ds ≡ true) (digits_value 10)
own = numerals_by_value (λ ds. all_ascii_digits ds ≡ true) tells_all_ascii_digits

and_true : (s t : Bool) → s && t ≡ true → (s ≡ true) × (t ≡ true)
and_true s t e = grind arith

and_of : (s t : Bool) → s ≡ true → t ≡ true → s && t ≡ true
and_of s t a b = rw (a, b) refl

-- digits without a leading zero
numeral_of : (bs : List ℕ) → has_plain_front bs ≡ true → all_ascii_digits bs ≡ true → is_numeral bs ≡ true
numeral_of bs f h = grind arith

numeral_digits : (bs : List ℕ) → is_numeral bs ≡ true → (all_ascii_digits bs ≡ true) × (0 < length bs)
numeral_digits bs h = grind arith

-- a sign is not a digit
numeral_front : (bs : List ℕ) → is_numeral bs ≡ true → has_plain_front bs ≡ true
numeral_front bs h = grind arith

-- ---- the number

number-some : (bs : List ℕ) → is_numeral bs ≡ true → digits_value 10 bs < 2 ^ 64
    → number_of bs ≡ Some (digits_value 10 bs)
number-some bs h l = search rules

number-none : (bs : List ℕ) → (is_numeral bs ≡ true → digits_value 10 bs < 2 ^ 64 → ⊥) → number_of bs ≡ None
number-none bs h = search rules

no_plus : (bs : List ℕ) → has_plain_front bs ≡ true → get_or bs 0 0 ≢ 43
no_plus bs f = grind arith

pub number-no_front : (bs : List ℕ) → has_plain_front bs ≡ false → number_of bs ≡ None
number-no_front bs f = number-none bs (λ h l. let x = numeral_front bs h in cc)

-- the result of `parse` for a part with a plain front; the error does not matter
pub number-parsed : (bs : List ℕ) (x : ℕ) → ParsesUnsigned {E = ℕ} 64 10 bs (Ok x) → has_plain_front bs ≡ true
    → number_of bs ≡ Some x
number-parsed bs x p f =
    let meant = parse_plain own {E = ℕ} 64 bs (Ok x) p (no_plus bs f) in
    number-some bs (numeral_of bs f meant.0.0) meant.0.2 ∙ ap Some (sym meant.1)

pub number-not_parsed : (bs : List ℕ) → ParsesUnsigned {E = ℕ} 64 10 bs (Err 0) → has_plain_front bs ≡ true
    → number_of bs ≡ None
number-not_parsed bs p f =
    let meant = parse_plain own {E = ℕ} 64 bs (Err 0) p (no_plus bs f) in
    number-none bs (λ h l. let d = numeral_digits bs h in meant (d.0, d.1, l))

-- ---- the written form of a number

-- a part that writes a number is its written form
pub number-written : (bs : List ℕ) (n : ℕ) → number_of bs ≡ Some n → (decimal n ≡ bs) × (n < 2 ^ 64)
number-written bs n e = by_tests (is_numeral bs) (leb (digits_value 10 bs) 18446744073709551615) refl refl
  where
    first : (xs : List ℕ) → is_numeral xs ≡ true → get_or xs 0 0 ≡ 48 → length xs ≡ 1
    first [] h z = absurd (cc)
    first (d ∷ []) h z = refl
    first (d ∷ c ∷ ds) h z =
        let no_zero : not (eqb d 48) ≡ true = (and_true (not (eqb d 48)) (all_ascii_digits (d ∷ c ∷ ds)) h).0
        in
        let x : not (eqb 48 48) ≡ true = ap (λ b. not (eqb b 48)) (sym z) ∙ no_zero in absurd (cc)

    by_tests : (s t : Bool) → is_numeral bs ≡ s → leb (digits_value 10 bs) 18446744073709551615 ≡ t
        → (decimal n ≡ bs) × (n < 2 ^ 64)
    by_tests false t a b = let x : number_of bs ≡ None = rw a refl in absurd (cc)
    by_tests true false a b = let x : number_of bs ≡ None = rw (a, b) refl in absurd (cc)
    by_tests true true a b =
        let x : number_of bs ≡ Some (digits_value 10 bs) = rw (a, b) refl in
        let same : digits_value 10 bs ≡ n = cc in
        let small : digits_value 10 bs < 2 ^ 64 = grind (arith, nat_tests, b) in
        let digits = numeral_digits bs a in (
          ap decimal (sym same) ∙ decimal-digits_value own bs digits.0 digits.1 (first bs a) small,
          subst (λ k. k < 2 ^ 64) same small,
        )

-- digits that do not begin with a zero are a numeral
numeral_digits_of : (bs : List ℕ) → all_ascii_digits bs ≡ true → 0 < length bs → (48 < get_or bs 0 0)
    → is_numeral bs ≡ true
numeral_digits_of bs h l f = grind arith

decimal_zero : is_numeral (decimal 0) ≡ true
unfolding digits
decimal_zero = refl

pub numeral-decimal : (n : ℕ) → n < 2 ^ 64 → is_numeral (decimal n) ≡ true
numeral-decimal zero h = decimal_zero
numeral-decimal (suc n) h = numeral_digits_of (decimal (suc n)) (digits_decimal own (suc n) h)
    (decimal_nonempty (suc n) h) (first_decimal (suc n) (omega arith) h)

-- the written form of a number writes that number
pub number-decimal : (n : ℕ) → n < 2 ^ 64 → number_of (decimal n) ≡ Some n
number-decimal n h =
    let value : digits_value 10 (decimal n) ≡ n = digits_value-decimal own n h in
    number-some (decimal n) (numeral-decimal n h) (subst (λ k. k < 2 ^ 64) (sym value) h) ∙ ap Some value

-- no digit is a `.`, nor the `s` of `start`
pub plain-digits : (bs : List ℕ) → all_ascii_digits bs ≡ true → list_any is_dot bs ≡ false
plain-digits [] h = refl
plain-digits (d ∷ ds) h =
    let both = and_true (is_ascii_digit d) (all_ascii_digits ds) h in
    rw (no_dot (eqb d 46) refl both.0) (plain-digits ds both.1)
  where
    no_dot : (t : Bool) → eqb d 46 ≡ t → is_ascii_digit d ≡ true → eqb d 46 ≡ false
    no_dot true e f = let p : d ≡ 46 = grind (arith, nat_tests, e) in
        absurd (let x : is_ascii_digit 46 ≡ true = ap is_ascii_digit (sym p) ∙ f in cc)
    no_dot false e f = e

pub no_dot-decimal : (n : ℕ) → n < 2 ^ 64 → list_any is_dot (decimal n) ≡ false
no_dot-decimal n h = plain-digits (decimal n) (digits_decimal own n h)

-- digits, and the bytes after them, are not `start`
pub not_start : (bs more : List ℕ) → is_numeral bs ≡ true → bs ++ more ≡ codes "start" → ⊥
not_start bs more h e = grind arith
