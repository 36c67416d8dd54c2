-- Texts with and without a line.
use Rattle.std.proofs.Common.{◌≡◌, ◌≢◌, ℕ, ◌==◌, true, false, List, [], ◌∷◌, length, map, sym}
use Rattle.std.proofs.Common.{◌∙◌}
use Rattle.std.proofs.Common.{arith, inl, inr, true≢false}
use Rattle.std.proofs.lemmas.Bool.Decides.{eqb_tells}

pub not-none : {X : Type 0} (x : X) (xs : List X) → (length (x ∷ xs) == 0) ≡ false
not-none x xs = elim (eqb_tells (length (x ∷ xs)) 0) [
  | inl same ↦ let none = same.1 in absurd (omega (arith, none))
  | inr other ↦ other.0
]

-- lines that things stand for
module _ {X : Type 0} (bytes : X → List ℕ) (lines : List (List ℕ)) where
  pub no-lines : (things : List X) → map bytes things ≡ lines → (length things == 0) ≡ true → lines ≡ []
  no-lines [] are none = sym are
  no-lines (thing ∷ things) are none = absurd (true≢false (sym none ∙ not-none thing things))

  pub some-lines : (things : List X) → map bytes things ≡ lines → (length things == 0) ≡ false → lines ≢ []
  some-lines [] are some is = true≢false some
  some-lines (thing ∷ things) are some is =
      let both : bytes thing ∷ map bytes things ≡ [] = are ∙ is in absurd cc
