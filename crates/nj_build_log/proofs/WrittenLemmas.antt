-- Lines as Ninja writes them.
use Rattle.std.proofs.Common.{◌≡◌, ℕ, suc, ◌+◌, ◌-◌, ◌*◌, ◌^◌, ◌<◌, ◌≤◌, Bool, true, false, cond}
use Rattle.std.proofs.Common.{Some, None, List, [], ◌∷◌, ◌++◌, length, drop, refl, ap}
use Rattle.std.proofs.Common.{◌∙◌, ap₂, arith, Option, ◌||◌, min, ltb, take, true≢false}
use Rattle.std.specs.Prelude.{not, pos, decimal, ◌/◌, ◌%◌, ◌≢◌, neg_ℤ, ℤ, ◌&&◌, ◌==◌}
use Rattle.std.specs.Fmt.{digits}
use Rattle.std.specs.Char.{digit_value, is_digit}
use Rattle.std.specs.Int.{w32, int_wrap}
use Rattle.std.specs.List.{list_any, position_or_len, take_while, before_first, after_first}
use Rattle.std.specs.Str.Parse.{AllDigits, IsNumeral, digits_value, starts_with_minus, without_leading_sign}
use Rattle.std.specs.Str.Parse.{without_leading_plus}
use Rattle.std.proofs.lemmas.Bool.{lt-ltb}
use Rattle.std.proofs.lemmas.Bool.Decides.{nat_tests}
use Rattle.std.proofs.Math.Seq.{drop-append-add}
use Rattle.std.proofs.lemmas.List.{take-append-le, take_all}
use Rattle.std.proofs.lemmas.Str.Parse.{without_leading_plus_none}
use Rattle.std.proofs.lemmas.Fmt.{digits_is_IsNumeral}
use Rattle.std.proofs.lemmas.Int.{int_wrap_fits}
use Rattle.std.proofs.lemmas.List.Sums.{take_while-cons}
use Rattle.nj_build_log.specs.Numbers.{is_blank, without_blanks, leading_value, long_of, int_of}
use Rattle.nj_build_log.specs.Numbers.{without_prefix, hash_of}
use Rattle.nj_build_log.specs.Logs.{LineModel, is_tab, counted_part, fields_of, line_in}
use Rattle.nj_build_log.specs.Laws.{written_line, WrittenLinesAreRead}
use Rattle.nj_build_log.specs.Inside.LinesHeld.{split_at_first}
use Rattle.nj_build_log.proofs.LineLemmas.{five_fields}

-- ---- digits

-- a digit of base sixteen is not a blank, a sign or an x
small_digit : (byte : ℕ) → digit_value byte < 16 → (48 ≤ byte) × (byte < 103) × (byte ≢ 88)
small_digit byte small = (grind (arith, nat_tests), grind (arith, nat_tests), grind (arith, nat_tests))

-- a text of digits is read whole
all_taken : (base : ℕ) (text : List ℕ) → AllDigits base text
    → take_while (λ byte. is_digit byte base) text ≡ text
all_taken base [] all = refl
all_taken base (byte ∷ text) all =
    take_while-cons (λ b. is_digit b base) byte text
    ∙ ap (λ b. cond b (byte ∷ take_while (λ c. is_digit c base) text) [])
    (lt-ltb (digit_value byte) base all.0)
    ∙ ap (λ t. byte ∷ t) (all_taken base text all.1)

-- a text that begins with a digit does not begin with a blank or a sign
no_blank : (byte : ℕ) (text : List ℕ) → 48 ≤ byte → without_blanks (byte ∷ text) ≡ byte ∷ text
no_blank byte text high = ap (λ b. cond b (without_blanks text) (byte ∷ text)) (is byte high)
  where
    is : (b : ℕ) → 48 ≤ b → is_blank b ≡ false
    is b h = grind (arith, nat_tests)

no_minus : (byte : ℕ) (text : List ℕ) → 48 ≤ byte → starts_with_minus (byte ∷ text) ≡ false
no_minus byte text high = grind (arith, nat_tests)

no_sign : (byte : ℕ) (text : List ℕ) → 48 ≤ byte → without_leading_sign (byte ∷ text) ≡ byte ∷ text
no_sign byte text high =
    ap (λ b. cond b (drop 1 (byte ∷ text)) (without_leading_plus (byte ∷ text))) (no_minus byte text high)
    ∙ without_leading_plus_none (byte ∷ text) (λ e. absurd (omega (arith, e)))

no_prefix : (byte : ℕ) (text : List ℕ) → AllDigits 16 text → without_prefix (byte ∷ text) ≡ byte ∷ text
no_prefix byte [] all = ap (λ b. cond b (drop 2 (byte ∷ [])) (byte ∷ [])) (is (byte == 48))
  where
    is : (b : Bool) → (b && (0 == 120 || 0 == 88)) ≡ false
    is true = refl
    is false = refl
no_prefix byte (next ∷ text) all =
    ap (λ b. cond b (drop 2 (byte ∷ next ∷ text)) (byte ∷ next ∷ text)) (is (byte == 48) next all.0)
  where
    is : (b : Bool) (n : ℕ) → digit_value n < 16 → (b && (n == 120 || n == 88)) ≡ false
    is true n small = let d = small_digit n small in grind (arith, nat_tests)
    is false n small = refl

-- ---- numbers

-- of base ten
ten_is_small : (text : List ℕ) → AllDigits 10 text → AllDigits 16 text
ten_is_small [] all = tt
ten_is_small (byte ∷ text) all = (omega (arith, all.0), ten_is_small text all.1)

long_read : (text : List ℕ) (n : ℕ) → IsNumeral 10 text → digits_value 10 text ≡ n → n < 2 ^ 63
    → long_of text ≡ pos n
long_read [] n numeral value fits = absurd (omega (arith, numeral.0))
long_read (byte ∷ text) n numeral value fits =
    let high : 48 ≤ byte = (small_digit byte (omega (arith, numeral.1.0))).0 in
    let read : leading_value 10 (byte ∷ text) ≡ n =
    ap (digits_value 10) (all_taken 10 (byte ∷ text) numeral.1) ∙ value in
    ap (λ t. cond (starts_with_minus t) (neg_ℤ
    (pos (min (leading_value 10 (without_leading_sign t)) (2 ^ 63))))
    (pos (min (leading_value 10 (without_leading_sign t)) (2 ^ 63 - 1)))) (no_blank byte text high)
    ∙ ap (λ b. cond b (neg_ℤ (pos (min (leading_value 10 (without_leading_sign (byte ∷ text))) (2 ^ 63))))
    (pos (min (leading_value 10 (without_leading_sign (byte ∷ text))) (2 ^ 63 - 1))))
    (no_minus byte text high)
    ∙ ap (λ t. pos (min (leading_value 10 t) (2 ^ 63 - 1))) (no_sign byte text high)
    ∙ ap (λ m. pos (min m (2 ^ 63 - 1))) read
    ∙ ap pos (let e : min n (2 ^ 63 - 1) ≡ n = omega arith in e)

decimal_long : (n : ℕ) → n < 2 ^ 63 → long_of (decimal n) ≡ pos n
decimal_long n fits =
    let is = digits_is_IsNumeral 10 false (omega arith) (omega arith) n (omega arith) in
    long_read (decimal n) n is.0 is.1 fits

wrapped : (n : ℕ) → n < 2 ^ 31 → int_wrap w32 (pos n) ≡ pos n
wrapped n fits = int_wrap_fits w32 (pos n) (omega arith)

decimal_int : (n : ℕ) → n < 2 ^ 31 → int_of (decimal n) ≡ pos n
decimal_int n fits = ap (int_wrap w32) (decimal_long n (omega arith)) ∙ wrapped n fits

-- of base sixteen
hash_read : (text : List ℕ) (n : ℕ) → IsNumeral 16 text → digits_value 16 text ≡ n → n < 2 ^ 64
    → hash_of text ≡ n
hash_read [] n numeral value fits = absurd (omega (arith, numeral.0))
hash_read (byte ∷ text) n numeral value fits =
    let high : 48 ≤ byte = (small_digit byte numeral.1.0).0 in
    let read : leading_value 16 (byte ∷ text) ≡ n =
    ap (digits_value 16) (all_taken 16 (byte ∷ text) numeral.1) ∙ value in
    ap (λ t. (let size = leading_value 16 (without_prefix (without_leading_sign t)) in
    cond (ltb size (2 ^ 64)) (cond (starts_with_minus t) ((2 ^ 64 - size) % 2 ^ 64) size) (2 ^ 64 - 1)))
    (no_blank byte text high)
    ∙ ap (λ b. (let size = leading_value 16 (without_prefix (without_leading_sign (byte ∷ text))) in
    cond (ltb size (2 ^ 64)) (cond b ((2 ^ 64 - size) % 2 ^ 64) size) (2 ^ 64 - 1))) (no_minus byte text high)
    ∙ ap (λ t. (let size = leading_value 16 (without_prefix t) in cond (ltb size (2 ^ 64)) size (2 ^ 64 - 1)))
    (no_sign byte text high)
    ∙ ap (λ t. (let size = leading_value 16 t in cond (ltb size (2 ^ 64)) size (2 ^ 64 - 1)))
    (no_prefix byte text numeral.1.1)
    ∙ ap (λ m. cond (ltb m (2 ^ 64)) m (2 ^ 64 - 1)) read
    ∙ ap (λ b. cond b n (2 ^ 64 - 1)) (lt-ltb n (2 ^ 64) fits)

hex_read : (n : ℕ) → n < 2 ^ 64 → hash_of (digits 16 false n) ≡ n
hex_read n fits =
    let is = digits_is_IsNumeral 16 false (omega arith) (omega arith) n (omega arith) in
    hash_read (digits 16 false n) n is.0 is.1 fits

-- ---- fields

tab_at : (front rest : List ℕ) → list_any is_tab front ≡ false
    → position_or_len is_tab (front ++ 9 ∷ rest) ≡ length front
tab_at [] rest none = refl
tab_at (byte ∷ front) rest none = by (is_tab byte) (tab_at front rest) none
  where
    by : (b : Bool) → (list_any is_tab front ≡ false
        → position_or_len is_tab (front ++ 9 ∷ rest) ≡ length front)
        → (b || list_any is_tab front) ≡ false
        → cond (not b) (1 + position_or_len is_tab (front ++ 9 ∷ rest)) 0 ≡ suc (length front)
    by true e other = absurd (true≢false other)
    by false e other = let f = e other in omega arith

some_tab : (front rest : List ℕ) → list_any is_tab (front ++ 9 ∷ rest) ≡ true
some_tab [] rest = refl
some_tab (byte ∷ front) rest = by (is_tab byte) (some_tab front rest)
  where
    by : (b : Bool) → list_any is_tab (front ++ 9 ∷ rest) ≡ true
        → (b || list_any is_tab (front ++ 9 ∷ rest)) ≡ true
    by true e = refl
    by false e = e

cut_here : (front rest : List ℕ) → list_any is_tab front ≡ false
    → split_at_first is_tab (front ++ 9 ∷ rest) ≡ Some (front, rest)
cut_here front rest none =
    let text = front ++ 9 ∷ rest in
    let at = tab_at front rest none in
    let before : before_first is_tab text ≡ front =
    ap (λ n. take n text) at ∙ take-append-le (length front) front (9 ∷ rest) (omega arith)
    ∙ take_all (length front) front (omega arith) in
    let after : after_first is_tab text ≡ rest =
    ap (λ n. drop (n + 1) text) at ∙ drop-append-add front (9 ∷ rest) 1 in
    ap (λ b. cond b (Some (before_first is_tab text, after_first is_tab text)) None) (some_tab front rest)
    ∙ ap₂ (λ f r. Some (f, r)) before after

no_tab : (text : List ℕ) → AllDigits 16 text → list_any is_tab text ≡ false
no_tab [] all = refl
no_tab (byte ∷ text) all = by byte (small_digit byte all.0).0 ∙ no_tab text all.1
  where
    by : (b : ℕ) → 48 ≤ b → (b == 9 || list_any is_tab text) ≡ list_any is_tab text
    by b high = ap (λ c. c || list_any is_tab text) (is b high)
      where
        is : (n : ℕ) → 48 ≤ n → (n == 9) ≡ false
        is n h = grind (arith, nat_tests)

decimal_untabbed : (n : ℕ) → n < 2 ^ 63 → list_any is_tab (decimal n) ≡ false
decimal_untabbed n fits =
    no_tab (decimal n) (ten_is_small (decimal n)
    (digits_is_IsNumeral 10 false (omega arith) (omega arith) n (omega arith)).0.1)

-- ---- lines

all_counted : (line : List ℕ) → length line < 262144 → counted_part line ≡ line
all_counted line short =
    let none : length line / 262144 ≡ 0 = omega arith in
    ap (λ n. drop (262144 * n) line) none

pub written_is_read : WrittenLinesAreRead
written_is_read start end time output hash written =
    let line = written_line start end time output hash in
    let rest_3 = output ++ 9 ∷ digits 16 false hash in
    let rest_2 = decimal time ++ 9 ∷ rest_3 in
    let rest_1 = decimal end ++ 9 ∷ rest_2 in
    let made : ℤ → ℤ → ℤ → ℕ → Option LineModel =
    λ (x y z : ℤ) (n : ℕ). Some (record {
      output = output;
      entry =
          record { start = x; end = y; time = z; hash = n };
    }) in
    ap (λ l. line_in (fields_of 4 l)) (all_counted line written.short)
    ∙ ap line_in (five_fields line (decimal start) rest_1 (decimal end) rest_2 (decimal time) rest_3 output
    (digits 16 false hash) (cut_here (decimal start) rest_1 (decimal_untabbed start (omega arith)))
    (cut_here (decimal end) rest_2 (decimal_untabbed end (omega arith)))
    (cut_here (decimal time) rest_3 (decimal_untabbed time (omega arith)))
    (cut_here output (digits 16 false hash) written.untabbed))
    ∙ ap (λ x. made x (int_of (decimal end)) (long_of (decimal time)) (hash_of (digits 16 false hash)))
    (decimal_int start written.start_fits)
    ∙ ap (λ y. made (pos start) y (long_of (decimal time)) (hash_of (digits 16 false hash)))
    (decimal_int end written.end_fits)
    ∙ ap (λ z. made (pos start) (pos end) z (hash_of (digits 16 false hash)))
    (decimal_long time written.time_fits)
    ∙ ap (made (pos start) (pos end) (pos time)) (hex_read hash written.hash_fits)
