-- The number that is read digit by digit, up to the first number that does not fit into 64 bits.
use Rattle.std.proofs.Common.{◌≡◌, ℕ, ◌+◌, ◌*◌, ◌^◌, ◌<◌, ◌≤◌, min, true, false, cond, ltb}
use Rattle.std.proofs.Common.{List, [], ◌∷◌, length, drop, get_or, sym, ap, ◌∙◌, arith, ◌⊎◌, inl, inr}
use Rattle.std.specs.Char.{digit_value, is_digit}
use Rattle.std.specs.List.{take_while}
use Rattle.std.specs.Str.Parse.{digits_value_after}
use Rattle.std.proofs.Math.Nat.{mul-le-mul_right, le-mul_of_pos_right}
use Rattle.std.proofs.lemmas.Bool.{cases_lt, lt-ltb, le-ltb}
use Rattle.std.proofs.lemmas.List.{drop_more, drop_all}
use Rattle.std.proofs.lemmas.List.Sums.{take_while-cons}
use Rattle.nj_build_log.specs.Numbers.{leading_value}

-- the digits from a place on
abbrev digits_from : (base : ℕ) → List ℕ → (place : ℕ) → List ℕ
digits_from base text place = take_while (λ byte. is_digit byte base) (drop place text)

-- the value so far and the remaining digits write the number at the front of the text
abbrev pub IsReadTo : (base : ℕ) → List ℕ → (place value : ℕ) → Type 0
IsReadTo base text place value =
    min (digits_value_after base value (digits_from base text place)) (2 ^ 64)
    ≡ min (leading_value base text) (2 ^ 64)

-- a number that was held at the limit stays there
held : (base n d limit : ℕ) → 1 ≤ base → min (min n limit * base + d) limit ≡ min (n * base + d) limit
held base n d limit some = by (cases_lt limit n)
  where
    by : (limit < n) ⊎ (n ≤ limit) → min (min n limit * base + d) limit ≡ min (n * base + d) limit
    by (inl great) =
        let is : min n limit ≡ limit = omega arith in
        let more : limit ≤ limit * base = le-mul_of_pos_right limit (let p : 0 < base = omega arith in p) in
        let above : limit * base ≤ n * base = mul-le-mul_right base (let p : limit ≤ n = omega arith in p) in
        ap (λ m. min (m * base + d) limit) is ∙ omega (arith, more, above)
    by (inr small) = ap (λ m. min (m * base + d) limit) (let e : min n limit ≡ n = omega arith in e)

held_after : (base n limit : ℕ) (digits : List ℕ) → 1 ≤ base
    → min (digits_value_after base (min n limit) digits) limit ≡ min (digits_value_after base n digits) limit
held_after base n limit [] some = omega arith
held_after base n limit (c ∷ digits) some =
    sym (held_after base (min n limit * base + digit_value c) limit digits some)
    ∙ ap (λ m. min (digits_value_after base m digits) limit) (held base n (digit_value c) limit some)
    ∙ held_after base (n * base + digit_value c) limit digits some

digits_at : (base : ℕ) (text : List ℕ) (place : ℕ) → place < length text
    → digits_from base text place ≡ cond (is_digit (get_or text place 0) base)
    (get_or text place 0 ∷ digits_from base text (place + 1)) []
digits_at base text place within =
    ap (take_while (λ byte. is_digit byte base)) (drop_more text place 0 within)
    ∙ take_while-cons (λ byte. is_digit byte base) (get_or text place 0) (drop (place + 1) text)

is_a_digit : (n base : ℕ) → n < base → ltb n base ≡ true
is_a_digit n base small = lt-ltb n base small

is_no_digit : (n base : ℕ) → ¬ (n < base) → ltb n base ≡ false
is_no_digit n base other = elim (cases_lt n base)
    [ inl small ↦ absurd (other small) | inr great ↦ le-ltb n base great ]

-- one more digit
pub read-digit : (base : ℕ) (text : List ℕ) (place value digit next : ℕ) → 1 ≤ base → place < length text
    → digit_value (get_or text place 0) < base → digit ≡ digit_value (get_or text place 0)
    → next ≡ min (value * base + digit) (2 ^ 64) → IsReadTo base text place value
    → IsReadTo base text (place + 1) next
read-digit base text place value digit next some within is_small is_digit_at is_next read =
    let yes_here : is_digit (get_or text place 0) base ≡ true =
    is_a_digit (digit_value (get_or text place 0)) base is_small in
    let more = digits_from base text (place + 1) in
    let here : digits_from base text place ≡ get_or text place 0 ∷ more =
    digits_at base text place within ∙ ap (λ b. cond b (get_or text place 0 ∷ more) []) yes_here in
    ap (λ n. min (digits_value_after base n more) (2 ^ 64)) is_next
    ∙ held_after base (value * base + digit) (2 ^ 64) more some
    ∙ ap (λ d. min (digits_value_after base (value * base + d) more) (2 ^ 64)) is_digit_at
    ∙ ap (λ ds. min (digits_value_after base value ds) (2 ^ 64)) (sym here)
    ∙ read

-- another byte ends the number
pub read-other : (base : ℕ) (text : List ℕ) (place value : ℕ) → place < length text
    → ¬ (digit_value (get_or text place 0) < base) → value ≤ 2 ^ 64 → IsReadTo base text place value
    → value ≡ min (leading_value base text) (2 ^ 64)
read-other base text place value within other fits read =
    let no_here : is_digit (get_or text place 0) base ≡ false =
    is_no_digit (digit_value (get_or text place 0)) base other in
    let here : digits_from base text place ≡ [] =
    digits_at base text place within
    ∙ ap (λ b. cond b (get_or text place 0 ∷ digits_from base text (place + 1)) []) no_here in
    (let e : value ≡ min value (2 ^ 64) = omega arith in e)
    ∙ ap (λ ds. min (digits_value_after base value ds) (2 ^ 64)) (sym here) ∙ read

-- the text ends
pub read-all : (base : ℕ) (text : List ℕ) (place value : ℕ) → length text ≤ place → value ≤ 2 ^ 64
    → IsReadTo base text place value → value ≡ min (leading_value base text) (2 ^ 64)
read-all base text place value end fits read =
    (let e : value ≡ min value (2 ^ 64) = omega arith in e)
    ∙ ap (λ ds. min (digits_value_after base value ds) (2 ^ 64))
    (sym (ap (take_while (λ byte. is_digit byte base)) (drop_all place text end)))
    ∙ read
