-- The parts of a word, taken one by one.
use Rattle.std.proofs.Common.{◌≡◌, ◌+◌, ◌≤◌, ℕ, Bool, not, true, false, cond, Some, None, List, [], ◌∷◌, take}
use Rattle.std.proofs.Common.{drop, length}
use Rattle.std.proofs.Common.{refl, ap, subst, arith}
use Rattle.std.specs.Prelude.{position, nat_lt}
use Rattle.std.specs.List.{onto_first, position_or_len, slice_split}
use Rattle.std.proofs.lemmas.Bool.{ltb-true, ltb-false}
use Rattle.std.proofs.lemmas.List.Splits.{slice_split_first}
use Rattle.nj_audit.specs.WordNames.{is_sign}

-- a sign ends the first part
pub split-some : (text : List ℕ) (i : ℕ) → position is_sign text ≡ Some i
    → slice_split is_sign text ≡ take i text ∷ slice_split is_sign (drop (i + 1) text)
split-some text i = by (nat_lt (position_or_len is_sign text) (length text)) refl where
  by : (there : Bool) → nat_lt (position_or_len is_sign text) (length text) ≡ there
      → cond there (Some (position_or_len is_sign text)) None ≡ Some i
      → slice_split is_sign text ≡ take i text ∷ slice_split is_sign (drop (i + 1) text)
  by true test is =
      let at : position_or_len is_sign text ≡ i = cc in
      subst (λ n. slice_split is_sign text ≡ take n text ∷ slice_split is_sign (drop (n + 1) text)) at
      (slice_split_first is_sign text 0 (ltb-true (position_or_len is_sign text) (length text) test))
  by false test is = cc

plain-parts : (text : List ℕ) → length text ≤ position_or_len is_sign text
    → slice_split is_sign text ≡ text ∷ []
plain-parts [] all = refl
plain-parts (b ∷ text) all = by (is_sign b) all (plain-parts text) where
  by : (sign : Bool) → length (b ∷ text) ≤ cond (not sign) (1 + position_or_len is_sign text) 0
      → (length text ≤ position_or_len is_sign text → slice_split is_sign text ≡ text ∷ [])
      → cond sign ([] ∷ slice_split is_sign text) (onto_first b (slice_split is_sign text)) ≡ (b ∷ text) ∷ []
  by true all next = absurd (omega (arith, all))
  by false all next = ap (onto_first b) (next (omega (arith, all)))

-- without a sign the text is the only part
pub split-none : (text : List ℕ) → position is_sign text ≡ None → slice_split is_sign text ≡ text ∷ []
split-none text = by (nat_lt (position_or_len is_sign text) (length text)) refl where
  by : (there : Bool) → nat_lt (position_or_len is_sign text) (length text) ≡ there
      → cond there (Some (position_or_len is_sign text)) None ≡ None → slice_split is_sign text ≡ text ∷ []
  by true test is = cc
  by false test is = plain-parts text (ltb-false (position_or_len is_sign text) (length text) test)
