-- Letters of a pattern.
use Rattle.std.proofs.Common.{◌≡◌, ◌≢◌, ◌⊎◌, inl, inr, ◌+◌, ◌-◌, ℕ, Bool, true, false, not, cond, ◌&&◌, ◌||◌}
use Rattle.std.proofs.Common.{◌==◌}
use Rattle.std.proofs.Common.{Some, List, [], ◌∷◌, ◌++◌, length, refl, ap, ◌∙◌, arith}
use Rattle.std.specs.List.{find, list_any}
use Rattle.std.proofs.lemmas.Bool.{eqb-true, ne_eqb}
use Rattle.nj_globs.specs.declared.letters.Letter.{Letter}
use Rattle.nj_globs.specs.Patterns.{letter, letters_from, is_lone}

-- ---- one letter

pub escaped-read : (at first next : ℕ) (others after : List ℕ) → first ≡ 92 → others ≡ next ∷ after
    → letters_from at (first ∷ others)
    ≡ letter next true at ∷ letters_from (at + (length others + 1 - length after)) after
escaped-read at first next others after is cut =
    let long : length others ≡ length (next ∷ after) = ap length cut in
    let size : at + 2 ≡ at + (length others + 1 - length after) = omega arith in
    ap (λ o. letters_from at (first ∷ o)) cut ∙ ap (λ f. letters_from at (f ∷ next ∷ after)) is
    ∙ ap (λ n. letter next true at ∷ letters_from n after) size

pub plain-read : (at first : ℕ) (others : List ℕ) → (others ≡ []) ⊎ (first ≢ 92)
    → letters_from at (first ∷ others)
    ≡ letter first false at ∷ letters_from (at + (length others + 1 - length others)) others
plain-read at first [] why = refl
plain-read at first (next ∷ bytes) (inl none) = absurd (cc)
plain-read at first (next ∷ bytes) (inr other) =
    let size : at + 1 ≡ at + (length (next ∷ bytes) + 1 - length (next ∷ bytes)) = omega arith in
    ap (λ b. cond b (letter next true at ∷ letters_from (at + 2) bytes)
    (letter first false at ∷ letters_from (at + 1) (next ∷ bytes))) (ne_eqb first 92 other)
    ∙ ap (λ n. letter first false at ∷ letters_from n (next ∷ bytes)) size

-- ---- a `\` at the end

found : (p : Letter → Bool) (xs : List Letter) (l : Letter) (more : List Letter) → list_any p xs ≡ false
    → p l ≡ true → find p (xs ++ l ∷ more) ≡ Some l
found p [] l more none passes = ap (λ b. cond b (Some l) (find p more)) passes
found p (x ∷ xs) l more none passes = by (p x) none (λ e. found p xs l more e passes)
  where
    by : (b : Bool) → (b || list_any p xs) ≡ false
        → (list_any p xs ≡ false → find p (xs ++ l ∷ more) ≡ Some l)
        → cond b (Some x) (find p (xs ++ l ∷ more)) ≡ Some l
    by true e rest = absurd (cc)
    by false e rest = rest e

lone : (l : Letter) (at : ℕ) → is_lone l ≡ true → l.at ≡ at → l ≡ letter 92 false at
lone l at is there =
    let both = parts l.is_literal (l.byte == 92) is in
    ap (λ b. letter b l.is_literal l.at) (eqb-true l.byte 92 both.1)
    ∙ ap (λ b. letter 92 b l.at) both.0 ∙ ap (letter 92 false) there
  where
    parts : (b c : Bool) → (not b && c) ≡ true → (b ≡ false) × (c ≡ true)
    parts true c e = absurd (cc)
    parts false c e = (refl, e)

pub lone-found : (pattern rest others after : List ℕ) (before : List Letter) (l : Letter) (first at next : ℕ)
    → letters_from 0 pattern ≡ before ++ letters_from at rest → rest ≡ first ∷ others
    → letters_from at (first ∷ others) ≡ l ∷ letters_from next after → list_any is_lone before ≡ false
    → is_lone l ≡ true → l.at ≡ at → find is_lone (letters_from 0 pattern) ≡ Some (letter 92 false at)
lone-found pattern rest others after before l first at next cut front read fine is there =
    ap (find is_lone) (cut ∙ ap (λ r. before ++ letters_from at r) front ∙ ap (λ ls. before ++ ls) read)
    ∙ found is_lone before l (letters_from next after) fine is ∙ ap Some (lone l at is there)
