-- A text is determined by the text that it is mapped to.
use Rattle.std.proofs.Common.{◌≡◌, ◌≢◌, ◌<◌, ◌≤◌, ◌-◌, ◌^◌, ℕ, zero, suc, max, true, false, cond, leb, Some}
use Rattle.std.proofs.Common.{None}
use Rattle.std.proofs.Common.{List, [], ◌∷◌, ◌++◌, length, take, drop, get_or, position, bytes_eq, refl, sym}
use Rattle.std.proofs.Common.{ap, ◌∙◌}
use Rattle.std.proofs.Common.{inl, inr, take-append-drop, length-drop, le_refl, arith}
use Rattle.std.specs.Prelude.{◌⊎◌, ◌==◌, decimal, unwrap_or}
use Rattle.std.specs.Char.{is_ascii_digit}
use Rattle.std.specs.List.{position_or_len}
use Rattle.std.specs.Str.{all_ascii_digits}
use Rattle.std.specs.Str.Parse.{digits_value}
use Rattle.std.proofs.lemmas.Bool.{and_parts, cases_lt, cases_Bool, lt-ltb, leb-true, ne_eqb}
use Rattle.std.proofs.lemmas.Bool.Decides.{Decides-eqb}
use Rattle.std.proofs.lemmas.Fmt.{decimal_injective, digits_decimal}
use Rattle.std.proofs.lemmas.List.{take_at}
use Rattle.std.proofs.lemmas.List.Elements.{All-drop, All-head, All-tail}
use Rattle.std.proofs.lemmas.List.Prefix.{front_fits}
use Rattle.std.proofs.lemmas.List.Sums.{fails_before_first, passes_at_first}
use Rattle.std.proofs.lemmas.Slice.Eq.{bytes_eq-Decides, starts_is}
use Rattle.std.proofs.lemmas.Str.Parse.{IsNumeralModel, numerals_by_value, tells_all_ascii_digits}
use Rattle.nj_keys.specs.Bases.{counted, ends_before, front_mapped, longest_at, mapped_after, may_begin}
use Rattle.nj_keys.specs.Bases.{stands_at}
use Rattle.nj_keys.specs.Bases.{HasNoZero, MappedTells}

abbrev IsNotZero : ℕ → Type 0
IsNotZero b = b ≢ 0

-- ---- where a number ends

-- the directory before a digit would not end there
digit-goes_on : (b : ℕ) (text : List ℕ) → is_ascii_digit b ≡ true → ends_before (b ∷ text) ≡ false
digit-goes_on b text digit =
    let range = and_parts (leb 48 b) (leb b 57) digit in
    let low = leb-true 48 b range.0 in
    let high = leb-true b 57 range.1 in
    let other : (n : ℕ) → (n < 48) ⊎ (57 < n) → (b == n) ≡ false =
    λ n apart. ne_eqb b n (λ is. elim apart
    [ inl below ↦ omega (arith, low) | inr above ↦ omega (arith, high) ]) in
    rw (
      other 47 (inl (omega arith)),
      other 34 (inl (omega arith)),
      other 39 (inl (omega arith)),
      other 32 (inl (omega arith)),
      other 9 (inl (omega arith)),
      other 10 (inl (omega arith)),
      other 13 (inl (omega arith)),
      other 61 (inr (omega arith)),
      other 58 (inr (omega arith)),
      other 44 (inl (omega arith)),
      other 38 (inl (omega arith)),
      other 40 (inl (omega arith)),
      other 41 (inl (omega arith)),
      other 59 (inr (omega arith)),
      other 60 (inr (omega arith)),
      other 62 (inr (omega arith)),
      other 124 (inr (omega arith)),
      other 92 (inr (omega arith)),
    ) refl

-- a text does not begin with a digit
abbrev BeginsPlain : List ℕ → Type 0
BeginsPlain [] = Unit {0}
BeginsPlain (b ∷ text) = is_ascii_digit b ≡ false

-- digits, and a text that does not begin with a digit
cut : (ds es x y : List ℕ) → all_ascii_digits ds ≡ true → all_ascii_digits es ≡ true → BeginsPlain x
    → BeginsPlain y → ds ++ x ≡ es ++ y → (ds ≡ es) × (x ≡ y)
cut [] [] x y all also plain clear is = (refl, is)
cut [] (e ∷ es) [] y all also plain clear is = absurd cc
cut [] (e ∷ es) (b ∷ x) y all also plain clear is =
    let digit = (and_parts (is_ascii_digit e) (all_ascii_digits es) also).0 in
    let first : b ≡ e = cc in
    let none : is_ascii_digit e ≡ false = ap is_ascii_digit (sym first) ∙ plain in absurd cc
cut (d ∷ ds) [] x [] all also plain clear is = absurd cc
cut (d ∷ ds) [] x (b ∷ y) all also plain clear is =
    let digit = (and_parts (is_ascii_digit d) (all_ascii_digits ds) all).0 in
    let first : d ≡ b = cc in
    let none : is_ascii_digit d ≡ false = ap is_ascii_digit first ∙ clear in absurd cc
cut (d ∷ ds) (e ∷ es) x y all also plain clear is =
    let first : d ≡ e = cc in
    let rest = cut ds es x y (and_parts (is_ascii_digit d) (all_ascii_digits ds) all).1
    (and_parts (is_ascii_digit e) (all_ascii_digits es) also).1 plain clear cc in
    (ap (λ n. n ∷ ds) first ∙ ap (λ ns. e ∷ ns) rest.0, rest.1)

own : IsNumeralModel (λ ds. all_ascii_digits ds ≡ true) (digits_value 10)
own = numerals_by_value (λ ds. all_ascii_digits ds ≡ true) tells_all_ascii_digits

-- ---- the directory that counts

-- the front of a text is a directory, which ends there
record IsFront (folders : List (List ℕ)) (text : List ℕ) (n : ℕ) : Type 0 where
  k : ℕ
  within : k < length folders
  is : take n text ≡ get_or folders k []
  fits : n ≤ length text
  ends : ends_before (drop n text) ≡ true

one-front : (folders : List (List ℕ)) (folder text : List ℕ) (n : ℕ) → stands_at text folder ≡ true
    → n ≡ length folder
    → IsFront (folder ∷ folders) text n
one-front folders folder text n stands size =
    let parts = and_parts _ (ends_before (drop (length folder) text)) stands in
    let split = (starts_is Decides-eqb text folder _ refl).0 parts.0 in
    record {
      k = 0;
      within = omega arith;
      is = ap (λ m. take m text) size ∙ ap (take (length folder)) split
          ∙ take_at folder (drop (length folder) text) (length folder) refl;
      fits = omega (arith, size, front_fits text folder (drop (length folder) text) split);
      ends = ap (λ m. ends_before (drop m text)) size ∙ parts.1;
    }

later-front : (folders : List (List ℕ)) (folder text : List ℕ) (n : ℕ) → IsFront folders text n
    → IsFront (folder ∷ folders) text n
later-front folders folder text n front =
    record {
      k = suc front.k;
      within = omega (arith, front.within);
      is = front.is;
      fits = front.fits;
      ends =
          front.ends;
    }

larger : (m n : ℕ) → (max m n ≡ m) ⊎ (max m n ≡ n)
larger m n = elim (cases_lt m n) [
  | inl less ↦ inr (omega arith)
  | inr more ↦ inl (omega arith)
]

front-is : (folders : List (List ℕ)) (text : List ℕ) (n : ℕ) → longest_at folders text ≡ suc n
    → IsFront folders text (suc n)
front-is [] text n is = absurd (omega (arith, is))
front-is (folder ∷ folders) text n is =
    elim (larger (cond (stands_at text folder) (length folder) 0) (longest_at folders text)) [
      | inr late ↦ later-front folders folder text (suc n) (front-is folders text n (sym late ∙ is))
      | inl first ↦ elim (cases_Bool (stands_at text folder)) [
        | inl stands ↦ one-front folders folder text (suc n) stands
            (sym is ∙ first ∙ ap (λ b. cond b (length folder) 0) stands)
        | inr none ↦ absurd (omega (arith, sym is ∙ first ∙ ap (λ b. cond b (length folder) 0) none))
      ]
    ]

front-counts : (folders : List (List ℕ)) (before text : List ℕ) (n : ℕ) → counted folders before text ≡ suc n
    → IsFront folders text (suc n)
front-counts folders before text n is = elim (cases_Bool (may_begin before)) [
  | inl may ↦ front-is folders text n (sym (ap (λ b. cond b (longest_at folders text) 0) may) ∙ is)
  | inr not ↦ absurd (omega (arith, sym (ap (λ b. cond b (longest_at folders text) 0) not) ∙ is))
]

-- ---- the number of a directory

abbrev number_of : List (List ℕ) → List ℕ → ℕ
number_of folders folder = unwrap_or (position (bytes_eq folder) folders) 0

record IsNumber (folders : List (List ℕ)) (folder : List ℕ) (n : ℕ) : Type 0 where
  within : n < length folders
  is : folder ≡ get_or folders n []

number-is : (folders : List (List ℕ)) (folder : List ℕ) (k : ℕ) → k < length folders
    → folder ≡ get_or folders k []
    → IsNumber folders folder (number_of folders folder)
number-is folders folder k below is =
    let test = bytes_eq folder in
    let first = position_or_len test folders in
    let within : first < length folders = elim (cases_lt first (length folders)) [
      | inl less ↦ less
      | inr past ↦
          let fails = fails_before_first test folders k [] (omega (arith, below, past)) in
          let same = (bytes_eq-Decides folder (get_or folders k [])).1 is in
          absurd cc
    ] in
    let number : number_of folders folder ≡ first =
    ap (λ b. unwrap_or (cond b (Some first) None) 0) (lt-ltb first (length folders) within) in
    record {
      within = omega (arith, number, within);
      is = (bytes_eq-Decides folder (get_or folders first [])).0 (passes_at_first test folders [] within)
          ∙ ap (λ n. get_or folders n []) (sym number);
    }

-- ---- what follows a directory

-- after the rest of a directory
skip : (folders : List (List ℕ)) (before : List ℕ) (n : ℕ) (text : List ℕ)
    → (later : List ℕ) × (mapped_after folders before n text ≡ mapped_after folders later 0 (drop n text))
skip folders before zero text = (before, refl)
skip folders before (suc n) [] = (before, refl)
skip folders before (suc n) (b ∷ text) = skip folders (before ++ b ∷ []) n text

plain-front : (folders : List (List ℕ)) (size b : ℕ) (text rest : List ℕ) → ends_before (b ∷ text) ≡ true
    → BeginsPlain (front_mapped folders size (b ∷ text) ++ rest)
plain-front folders zero b text rest ends = elim (cases_Bool (is_ascii_digit b)) [
  | inl digit ↦ let goes_on = digit-goes_on b text digit in absurd cc
  | inr plain ↦ plain
]
plain-front folders (suc size) b text rest ends = refl

plain : (folders : List (List ℕ)) (before text : List ℕ) → ends_before text ≡ true
    → BeginsPlain (mapped_after folders before 0 text)
plain folders before [] ends = tt
plain folders before (b ∷ text) ends = plain-front folders (counted folders before (b ∷ text)) b text _ ends

-- ---- texts

module _ (folders : List (List ℕ)) (few : length folders < 2 ^ 64) where
  abbrev Tells : ℕ → Type 0
  Tells fuel = (before later one other : List ℕ) → length one ≤ fuel → HasNoZero one → HasNoZero other
      → mapped_after folders before 0 one ≡ mapped_after folders later 0 other → one ≡ other

  -- a text that begins, or goes on, with a byte or a directory
  abbrev begun : (before : List ℕ) (n b : ℕ) (text : List ℕ) → List ℕ
  begun before n b text = front_mapped folders n (b ∷ text)
      ++ mapped_after folders (before ++ b ∷ []) (n - 1) text

  not-empty : (n b : ℕ) (text before : List ℕ) → [] ≡ begun before n b text → ⊥
  not-empty zero b text before is = absurd cc
  not-empty (suc n) b text before is = absurd cc

  -- two directories
  module _ (before : List ℕ) (n b : ℕ) (text : List ℕ) (counts : counted folders before (b ∷ text) ≡ suc n)
    where
      abbrev front : IsFront folders (b ∷ text) (suc n)
      front = front-counts folders before (b ∷ text) n counts

      abbrev number : ℕ
      number = number_of folders (take (suc n) (b ∷ text))

      numbered : IsNumber folders (take (suc n) (b ∷ text)) number
      numbered = number-is folders (take (suc n) (b ∷ text)) front.k front.within front.is

      small : number < 2 ^ 64
      small = omega (arith, few, numbered.within)

      after : (later : List ℕ) × (begun before (suc n) b text
          ≡ 0 ∷ decimal number ++ mapped_after folders later 0 (drop n text))
      after =
          let rest = skip folders (before ++ b ∷ []) n text in
          let less : suc n - 1 ≡ n = omega arith in (
            rest.0,
            ap (λ m. 0 ∷ decimal number ++ mapped_after folders (before ++ b ∷ []) m text) less
                ∙ ap (λ t. 0 ∷ decimal number ++ t) rest.1,
          )

  both : (fuel : ℕ) → Tells fuel → (before later : List ℕ) (n m b c : ℕ) (text rest : List ℕ)
      → length text ≤ fuel
      → HasNoZero (b ∷ text) → HasNoZero (c ∷ rest)
      → counted folders before (b ∷ text) ≡ suc n → counted folders later (c ∷ rest) ≡ suc m
      → begun before (suc n) b text ≡ begun later (suc m) c rest → b ∷ text ≡ c ∷ rest
  both fuel tells before later n m b c text rest short none never counts also is =
      let one = numbered before n b text counts in
      let other = numbered later m c rest also in
      let left = after before n b text counts in
      let right = after later m c rest also in
      let p = number before n b text counts in
      let q = number later m c rest also in
      let same : decimal p ++ mapped_after folders left.0 0 (drop n text)
      ≡ decimal q ++ mapped_after folders right.0 0 (drop m rest) =
      ap (drop 1) (sym left.1 ∙ is ∙ right.1) in
      let parts = cut (decimal p) (decimal q) _ _
      (digits_decimal own p (small before n b text counts)) (digits_decimal own q (small later m c rest also))
      (plain folders left.0 (drop n text) (front before n b text counts).ends)
      (plain folders right.0 (drop m rest) (front later m c rest also).ends) same in
      let number_same : p ≡ q = decimal_injective p q (small before n b text counts)
      (small later m c rest also) parts.0 in
      let folder : take (suc n) (b ∷ text) ≡ take (suc m) (c ∷ rest) =
      one.is ∙ ap (λ k. get_or folders k []) number_same ∙ sym other.is in
      let after_it : drop n text ≡ drop m rest = tells left.0 right.0 (drop n text) (drop m rest)
      (omega (arith, short, length-drop n text))
      (All-drop IsNotZero n text (All-tail IsNotZero b text none))
      (All-drop IsNotZero m rest (All-tail IsNotZero c rest never)) parts.1 in
      sym (take-append-drop (suc n) (b ∷ text)) ∙ ap (λ t. t ++ drop n text) folder
      ∙ ap (λ t. take (suc m) (c ∷ rest) ++ t) after_it ∙ take-append-drop (suc m) (c ∷ rest)

  step : (fuel : ℕ) → Tells fuel → (before later : List ℕ) (n m b c : ℕ) (text rest : List ℕ)
      → length text ≤ fuel
      → HasNoZero (b ∷ text) → HasNoZero (c ∷ rest)
      → counted folders before (b ∷ text) ≡ n → counted folders later (c ∷ rest) ≡ m
      → begun before n b text ≡ begun later m c rest → b ∷ text ≡ c ∷ rest
  step fuel tells before later zero zero b c text rest short none never counts also is =
      let first : b ≡ c = ap (λ t. get_or t 0 0) is in
      let more : text ≡ rest = tells (before ++ b ∷ []) (later ++ c ∷ []) text rest short
      (All-tail IsNotZero b text none) (All-tail IsNotZero c rest never) (ap (drop 1) is) in
      ap (λ x. x ∷ text) first ∙ ap (λ t. c ∷ t) more
  step fuel tells before later zero (suc m) b c text rest short none never counts also is =
      absurd (All-head IsNotZero b text none (ap (λ t. get_or t 0 0) is))
  step fuel tells before later (suc n) zero b c text rest short none never counts also is =
      absurd (All-head IsNotZero c rest never (sym (ap (λ t. get_or t 0 0) is)))
  step fuel tells before later (suc n) (suc m) b c text rest short none never counts also is =
      both fuel tells before later n m b c text rest short none never counts also is

  same : (fuel : ℕ) → Tells fuel
  same fuel before later [] [] short none never is = refl
  same fuel before later [] (c ∷ rest) short none never is =
      absurd (not-empty (counted folders later (c ∷ rest)) c rest later is)
  same fuel before later (b ∷ text) [] short none never is =
      absurd (not-empty (counted folders before (b ∷ text)) b text before (sym is))
  same zero before later (b ∷ text) (c ∷ rest) short none never is = absurd (omega (arith, short))
  same (suc fuel) before later (b ∷ text) (c ∷ rest) short none never is =
      step fuel (same fuel) before later (counted folders before (b ∷ text))
      (counted folders later (c ∷ rest))
      b c text rest (omega (arith, short)) none never refl refl is

pub tells : MappedTells
tells folders one other few none never is =
    same folders few (length one) [] [] one other (le_refl (length one)) none never is
