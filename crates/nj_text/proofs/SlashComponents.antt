-- The components between the slashes of a text.
use Rattle.std.proofs.lemmas.Grind.{common_steps}
use Rattle.std.proofs.Common.{◌≡◌, ℕ, suc, ◌+◌, ◌<◌, ◌≤◌, Bool, true, false, List, [], ◌∷◌, ◌++◌, length}
use Rattle.std.proofs.Common.{take, drop, get_or, refl, sym, ap, ◌∙◌, arith, add-one}
use Rattle.std.specs.Prelude.{◌||◌}
use Rattle.std.specs.List.{slice_split, onto_first, list_any}
use Rattle.std.proofs.Math.Seq.{drop-cons}
use Rattle.std.proofs.lemmas.Bool.Decides.{nat_tests}
use Rattle.std.proofs.lemmas.List.{take-append-drop, take_all}
use Rattle.std.proofs.lemmas.List.Splits.{slice_split-cons_yes, slice_split-cons_no}
use Rattle.nj_text.specs.Paths.{is_slash}

pub slash_is : (b : ℕ) → is_slash b ≡ true → b ≡ 47
slash_is b e = grind (arith, nat_tests, e)

pub or_false : (s t : Bool) → s || t ≡ false → (s ≡ false) × (t ≡ false)
or_false s t e = grind arith

pub or_of : (s t : Bool) → s ≡ false → t ≡ false → s || t ≡ false
or_of s t a b = rw (a, b) refl

-- a component ends at the first slash
pub components-at : (xs ys : List ℕ) → list_any is_slash xs ≡ false
    → slice_split is_slash (xs ++ 47 ∷ ys) ≡ xs ∷ slice_split is_slash ys
components-at [] ys h = slice_split-cons_yes is_slash 47 ys refl
components-at (x ∷ xs) ys h =
    let no = or_false (is_slash x) (list_any is_slash xs) h in
    slice_split-cons_no is_slash x (xs ++ 47 ∷ ys) no.0 ∙ ap (onto_first x) (components-at xs ys no.1)

-- a text without a slash is one component
pub components-none : (xs : List ℕ) → list_any is_slash xs ≡ false → slice_split is_slash xs ≡ xs ∷ []
components-none [] h = refl
components-none (x ∷ xs) h =
    let no = or_false (is_slash x) (list_any is_slash xs) h in
    slice_split-cons_no is_slash x xs no.0 ∙ ap (onto_first x) (components-none xs no.1)

pub any-append : (xs ys : List ℕ) → list_any is_slash xs ≡ false → list_any is_slash ys ≡ false
    → list_any is_slash (xs ++ ys) ≡ false
any-append xs ys h k = grind (arith, common_steps)

-- ---- the scan for the first slash

pub scan-more : (text : List ℕ) (i : ℕ) → i < length text → list_any is_slash (take i text) ≡ false
    → is_slash (get_or text i 0) ≡ false → list_any is_slash (take (i + 1) text) ≡ false
scan-more text i h front e = grind (arith, common_steps)

pub scan-slash : (text : List ℕ) (i : ℕ) → i < length text → list_any is_slash (take i text) ≡ false
    → get_or text i 0 ≡ 47 → slice_split is_slash text
    ≡ take i text ∷ slice_split is_slash (drop (i + 1) text)
scan-slash text i h front e =
    let cut : text ≡ take i text ++ get_or text i 0 ∷ drop (suc i) text =
    sym (take-append-drop i text) ∙ ap (λ ys. take i text ++ ys) (drop-cons text i 0 h) in
    ap (slice_split is_slash) (cut ∙ ap (λ b. take i text ++ b ∷ drop (suc i) text) e)
    ∙ components-at (take i text) (drop (suc i) text) front ∙ rw add-one refl

pub scan-all : (text : List ℕ) (i : ℕ) → length text ≤ i → list_any is_slash (take i text) ≡ false
    → (slice_split is_slash text ≡ text ∷ []) × (list_any is_slash text ≡ false)
scan-all text i h front = grind (arith, take, take_all, components-none)
