-- The number that is read digit by digit.
use Rattle.std.proofs.Common.{◌≡◌, ℕ, suc, ◌+◌, ◌-◌, ◌*◌, ◌<◌, ◌≤◌, min, Bool, true, false, cond, not, ◌==◌}
use Rattle.std.proofs.Common.{Option, Some, List, [], ◌∷◌, ◌++◌, length, take, drop, get_or, refl, sym}
use Rattle.std.proofs.Common.{ap, ◌∙◌, arith}
use Rattle.std.specs.Prelude.{unwrap_or}
use Rattle.std.specs.List.{take_while, position_or_len, before_first, after_first}
use Rattle.std.specs.Char.{digit_value}
use Rattle.std.specs.Str.Parse.{digits_value}
use Rattle.std.proofs.Math.Seq.{drop-cons}
use Rattle.std.proofs.lemmas.List.{take_more, take-append-drop, take_all, append-nil}
use Rattle.std.proofs.lemmas.Int.Digits.{digits_value_push}
use Rattle.nj_text.specs.Bytes.{is_digit}
use Rattle.nj_text.specs.Numbers.{greatest, number_of, leading_number_of}
use Rattle.nj_text.proofs.Lists.{AllIn, take_while-append, take_while-cons_yes, take_while-cons_no}

-- the value of a digit
digit-is : (d : ℕ) → is_digit d ≡ true → digit_value d ≡ d - 48
digit-is d h = grind arith

-- a number that was held at the greatest stays there
held : (n d g : ℕ) → min (min n g * 10 + d) g ≡ min (n * 10 + d) g
held n d g = omega arith

-- a digit after: ten times the number, and the digit
pub number_of-push : (ds : List ℕ) (d : ℕ) → is_digit d ≡ true
    → number_of (ds ++ d ∷ []) ≡ Some (min (unwrap_or (number_of ds) 0 * 10 + (d - 48)) greatest)
number_of-push [] d h = ap (λ n. Some (min (0 * 10 + n) greatest)) (digit-is d h)
number_of-push (c ∷ ds) d h =
    ap (λ n. Some (min n greatest)) (digits_value_push 10 (c ∷ ds) d
    ∙ ap (λ n. digits_value 10 (c ∷ ds) * 10 + n) (digit-is d h))
    ∙ ap Some (sym (held (digits_value 10 (c ∷ ds)) (d - 48) greatest))

-- ---- the loop over the digits

-- so far each byte is a digit, and this is their number
abbrev pub IsRead : List ℕ → ℕ → Option ℕ → Type 0
IsRead text i number = AllIn is_digit (take i text) × (number ≡ number_of (take i text))

AllIn-push : (p : ℕ → Bool) (xs : List ℕ) (x : ℕ) → AllIn p xs → p x ≡ true → AllIn p (xs ++ x ∷ [])
AllIn-push p [] x all e = (e, tt)
AllIn-push p (y ∷ xs) x all e = (all.0, AllIn-push p xs x all.1 e)

take_while-all : (p : ℕ → Bool) (xs : List ℕ) → AllIn p xs → take_while p xs ≡ xs
take_while-all p [] all = refl
take_while-all p (x ∷ xs) all = grind (arith, take_while-cons_yes p x xs all.0, take_while-all p xs all.1)

-- a digit is read
pub read-digit : (text : List ℕ) (i : ℕ) (before : Option ℕ) (after : ℕ) → i < length text
    → IsRead text i before → is_digit (get_or text i 0) ≡ true
    → after ≡ min (unwrap_or before 0 * 10 + (get_or text i 0 - 48)) greatest
    → IsRead text (i + 1) (Some after)
read-digit text i before after h read e a =
    let more : take (i + 1) text ≡ take i text ++ get_or text i 0 ∷ [] = take_more text i 0 h in
    let all = AllIn-push is_digit (take i text) (get_or text i 0) read.0 e in
    let number = ap Some a ∙ ap (λ (n : Option ℕ). Some
    (min (unwrap_or n 0 * 10 + (get_or text i 0 - 48)) greatest)) read.1
    ∙ sym (number_of-push (take i text) (get_or text i 0) e) in
    rw more (all, number)

-- a byte that is not a digit ends the number
pub read-other : (text : List ℕ) (i : ℕ) (number : Option ℕ) → i < length text → IsRead text i number
    → is_digit (get_or text i 0) ≡ false → number ≡ leading_number_of text
read-other text i number h read e = grind (
  arith,
  take i text,
  get_or text i 0,
  drop (suc i) text,
  take-append-drop i text,
  drop-cons text i 0 h,
  take_while-append is_digit (take i text) (get_or text i 0 ∷ drop (suc i) text) read.0,
  take_while-cons_no is_digit (get_or text i 0) (drop (suc i) text) e,
  append-nil (take i text),
)

-- the text is digits alone
pub read-all : (text : List ℕ) (i : ℕ) (number : Option ℕ) → length text ≤ i → IsRead text i number
    → number ≡ leading_number_of text
read-all text i number h read = grind (arith, take, take_all, take_while-all)

-- ---- the first `.`

abbrev is_dot : ℕ → Bool
is_dot b = b == 46

abbrev before_dot : List ℕ → List ℕ
before_dot text = before_first is_dot text

abbrev pub after_dot : List ℕ → List ℕ
after_dot text = after_first is_dot text

-- a byte that is not `.` comes before it
pub after_dot-other : (b : ℕ) (text : List ℕ) → (b == 46) ≡ false → after_dot (b ∷ text) ≡ after_dot text
after_dot-other b text e = grind arith

pub after_dot-dot : (b : ℕ) (text : List ℕ) → (b == 46) ≡ true → after_dot (b ∷ text) ≡ text
after_dot-dot b text e = ap (λ t. drop (cond (not t) (1 + position_or_len is_dot text) 0 + 1) (b ∷ text)) e

-- a `.` is not a digit
no_dot : (b : ℕ) → is_digit b ≡ true → not (is_dot b) ≡ true
no_dot b e = grind arith

-- the digits in front come before the first `.`
digits_before_dot : (text : List ℕ) → take_while is_digit (before_dot text) ≡ take_while is_digit text
digits_before_dot [] = refl
digits_before_dot (b ∷ text) = by_digit (is_digit b) refl (digits_before_dot text)
  where
    by_dot : (t : Bool) → not (is_dot b) ≡ t → is_digit b ≡ false
        → take_while is_digit (before_dot (b ∷ text)) ≡ []
    by_dot true other e = ap (take_while is_digit) (take_while-cons_yes (λ b. not (is_dot b)) b text other)
        ∙ take_while-cons_no is_digit b (before_dot text) e
    by_dot false dot e = ap (take_while is_digit) (take_while-cons_no (λ b. not (is_dot b)) b text dot)

    by_digit : (t : Bool) → is_digit b ≡ t → take_while is_digit (before_dot text) ≡ take_while is_digit text
        → take_while is_digit (before_dot (b ∷ text)) ≡ take_while is_digit (b ∷ text)
    by_digit true e rest =
        ap (take_while is_digit) (take_while-cons_yes (λ b. not (is_dot b)) b text (no_dot b e))
        ∙ take_while-cons_yes is_digit b (before_dot text) e
        ∙ ap (λ ds. b ∷ ds) rest ∙ sym (take_while-cons_yes is_digit b text e)
    by_digit false e rest = by_dot (not (is_dot b)) refl e ∙ sym (take_while-cons_no is_digit b text e)

pub leading_number-before_dot : (text : List ℕ) → leading_number_of (before_dot text) ≡ leading_number_of text
leading_number-before_dot text = ap number_of (digits_before_dot text)
