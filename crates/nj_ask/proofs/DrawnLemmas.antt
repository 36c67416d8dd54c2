-- Texts of drawings by their parts, and counts of what passes a test.
use Rattle.std.proofs.Common.{◌≡◌, ◌∙◌, ℕ, ◌+◌, ◌≤◌, suc, Bool, true, cond, List, [], ◌∷◌, ◌++◌}
use Rattle.std.proofs.Common.{length, sym, ap, arith, append-nil, append_assoc}
use Rattle.std.specs.List.{filter}
use Rattle.nj_graph.specs.Handles.{GraphFile}
use Rattle.nj_ask.specs.Drawings.{End, ends}
use Rattle.std.proofs.lemmas.List.Sums.{count_by-le-length, length-filter}

-- ---- texts

pub three-parts : (old a b c one two three : List ℕ) → one ≡ old ++ a → two ≡ one ++ b → three ≡ two ++ c
    → three ≡ old ++ (a ++ b ++ c)
three-parts old a b c one two three is-one is-two is-three = rw (is-three, is-two, is-one) (simp append_assoc)

pub four-parts : (old a b c d one two three four : List ℕ) → one ≡ old ++ a → two ≡ one ++ b
    → three ≡ two ++ c
    → four ≡ three ++ d → four ≡ old ++ (a ++ b ++ c ++ d)
four-parts old a b c d one two three four is-one is-two is-three is-four =
    rw (is-four, is-three, is-two, is-one) (simp append_assoc)

pub nested-parts : (a b c d e : List ℕ) → a ++ (b ++ (c ++ (d ++ e))) ≡ a ++ b ++ c ++ d ++ e
nested-parts a b c d e = sym (simp append_assoc)

-- ---- steps

-- Four texts are added to one, each by a step that is described with all that comes after it.
module _ {L E : Type 0} (f : L → List E → List ℕ) (t0 t1 t2 t3 t4 : List ℕ) (l0 l1 l2 l3 l4 : L)
    (a b c d : List E) where
  abbrev Step : (old new : List ℕ) → (before after : L) → List E → Type 0
  Step old new before after ends = (rest : List E) → new ++ f after rest ≡ old ++ f before (ends ++ rest)

  pub four-steps : Step t0 t1 l0 l1 a → Step t1 t2 l1 l2 b → Step t2 t3 l2 l3 c → Step t3 t4 l3 l4 d
      → f l4 [] ≡ [] → t4 ≡ t0 ++ f l0 (a ++ b ++ c ++ d)
  four-steps one two three four end =
      sym (append-nil t4) ∙ ap (λ t. t4 ++ t) (sym end) ∙ four []
      ∙ ap (λ es. t3 ++ f l3 es) (append-nil d) ∙ three d ∙ two (c ++ d) ∙ one (b ++ (c ++ d))
      ∙ ap (λ es. t0 ++ f l0 es) (sym (append_assoc a b (c ++ d)) ∙ sym (append_assoc (a ++ b) c d))

-- the ends of the same files
pub same-ends : {L : Type 0} (f : L → List End → List ℕ) (text : List ℕ) (linked : L) (folds : Bool)
    (style : List ℕ)
    (files others : List GraphFile) → files ≡ others → (rest : List End)
    → text ++ f linked (ends folds style files ++ rest) ≡ text ++ f linked (ends folds style others ++ rest)
same-ends f text linked folds style files others same rest =
    ap (λ fs. text ++ f linked (ends folds style fs ++ rest)) same

-- ---- counts

-- one more item that passes, of a list that is no longer than some number
pub one-more : {X : Type 0} (p : X → Bool) (x : X) (left all : List X) (count : ℕ) → p x ≡ true
    → count + length (filter p (x ∷ left)) ≡ length (filter p all) → count + 1 ≤ length all
one-more p x left all count passes is =
    let total : length (filter p all) ≤ length all =
    rw (length-filter p all) (count_by-le-length p all) in
    let at : count + suc (length (filter p left)) ≡ length (filter p all) =
    ap (λ b. count + length (cond b (x ∷ filter p left) (filter p left))) (sym passes) ∙ is in
    omega (arith, total, at)
