-- Marks in their written form, cut at their dots.
use Rattle.std.proofs.Common.{◌≡◌, ℕ, suc, ◌+◌, ◌<◌, Bool, true, false, not, cond, Option, Some, None, List}
use Rattle.std.proofs.Common.{[], ◌∷◌, ◌++◌, length, take, get_or, refl, sym, ap, ◌∙◌, arith, append_assoc}
use Rattle.std.specs.Prelude.{codes, decimal}
use Rattle.std.specs.List.{slice_split, onto_first, position_or_len, before_first, after_first}
use Rattle.std.specs.Str.{bytes_eq}
use Rattle.std.proofs.lemmas.List.{take_more}
use Rattle.std.proofs.lemmas.List.Splits.{slice_split-cons_no, slice_split_first}
use Rattle.std.specs.Prelude.{codes, decimal}
use Rattle.std.specs.Str.{bytes_eq}
use Rattle.nj_needs.specs.MarkTexts.{numbers_in, mark_text, given_mark}
use Rattle.nj_needs.specs.Inside.MarkScanning.{is_dot}

-- a text without a dot is one part
pub parts-none : (xs : List ℕ) → position_or_len is_dot xs ≡ length xs → slice_split is_dot xs ≡ xs ∷ []
parts-none [] e = refl
parts-none (x ∷ xs) e = by_test (is_dot x) refl (parts-none xs)
  where
    by_test : (t : Bool) → is_dot x ≡ t → (position_or_len is_dot xs ≡ length xs
        → slice_split is_dot xs ≡ xs ∷ []) → slice_split is_dot (x ∷ xs) ≡ (x ∷ xs) ∷ []
    by_test true d rest = let z : 0 ≡ suc (length xs) =
        sym (ap (λ (t : Bool). cond (not t) (1 + position_or_len is_dot xs) 0) d) ∙ e in absurd (omega arith)
    by_test false d rest =
        let z : 1 + position_or_len is_dot xs ≡ suc (length xs) =
        sym (ap (λ (t : Bool). cond (not t) (1 + position_or_len is_dot xs) 0) d) ∙ e in
        slice_split-cons_no is_dot x xs d ∙ ap (onto_first x) (rest (omega arith))

pub parts-some : (xs part after : List ℕ) → position_or_len is_dot xs < length xs
    → part ≡ before_first is_dot xs → after ≡ after_first is_dot xs
    → slice_split is_dot xs ≡ part ∷ slice_split is_dot after
parts-some xs part after l p a = slice_split_first is_dot xs 0 l ∙ rw (p, a) refl

-- ---- the loop over the parts

abbrev pub prefixed : List ℕ → Option (List ℕ) → Option (List ℕ)
prefixed numbers None = None
prefixed numbers (Some more) = Some (numbers ++ more)

-- some numbers are read, and the others are left
abbrev pub AreReadSoFar : List ℕ → List ℕ → List ℕ → Type 0
AreReadSoFar text numbers rest = numbers_in (slice_split is_dot text)
    ≡ prefixed numbers (numbers_in (slice_split is_dot rest))

-- ---- whole marks

pub given_start : (text : List ℕ) → bytes_eq text (codes "start") ≡ true → given_mark text ≡ Some []
unfolding given_mark
given_start text e = rw e refl

pub given_address : (text : List ℕ) → bytes_eq text (codes "start") ≡ false
    → given_mark text ≡ numbers_in (slice_split is_dot text)
unfolding given_mark
given_address text e = rw e refl

pub text-push : (n : ℕ) (numbers : List ℕ) (m : ℕ)
    → mark_text (n ∷ (numbers ++ m ∷ [])) ≡ mark_text (n ∷ numbers) ++ 46 ∷ decimal m
text-push n [] m = refl
text-push n (k ∷ numbers) m = ap (λ xs. decimal n ++ 46 ∷ xs) (text-push k numbers m)
    ∙ sym (append_assoc (decimal n) (46 ∷ mark_text (k ∷ numbers)) (46 ∷ decimal m))

-- a position more
pub position-more : (target : ℕ) (numbers items : List ℕ) (i : ℕ) (old pushed new shown : List ℕ)
    → items ≡ numbers → i < length items → old ≡ mark_text (target ∷ take i numbers)
    → pushed ≡ old ++ 46 ∷ [] → new ≡ pushed ++ shown → shown ≡ decimal (get_or items i 0)
    → new ≡ mark_text (target ∷ take (i + 1) numbers)
position-more target numbers items i old pushed new shown e h o p n s =
    let more : take (i + 1) numbers ≡ take i numbers ++ get_or items i 0 ∷ [] =
    ap (take (i + 1)) (sym e) ∙ take_more items i 0 h ∙ ap (λ xs. take i xs ++ get_or items i 0 ∷ []) e in
    n ∙ ap (λ xs. xs ++ shown) (p ∙ ap (λ xs. xs ++ 46 ∷ []) o)
    ∙ append_assoc (mark_text (target ∷ take i numbers)) (46 ∷ []) shown
    ∙ ap (λ xs. mark_text (target ∷ take i numbers) ++ 46 ∷ xs) s
    ∙ sym (text-push target (take i numbers) (get_or items i 0))
    ∙ ap (λ xs. mark_text (target ∷ xs)) (sym more)
