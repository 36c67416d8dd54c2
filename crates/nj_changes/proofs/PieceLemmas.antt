-- Pieces of a text, by their lengths.
use Rattle.std.proofs.Common.{◌≡◌, ℕ, ◌==◌, false, not, List, [], ◌∷◌, length, map, refl, ap, arith, inl, inr}
use Rattle.std.proofs.lemmas.Bool.Decides.{eqb_tells}
use Rattle.nj_text.specs.Calls.{is_empty}

pub not-none : {X : Type 0} (x : X) (xs : List X) → (length (x ∷ xs) == 0) ≡ false
not-none x xs = elim (eqb_tells (length (x ∷ xs)) 0) [
  | inl same ↦ let none = same.1 in absurd (omega (arith, none))
  | inr other ↦ other.0
]

pub is-empty : (line : List ℕ) → (length line == 0) ≡ is_empty line
is-empty [] = refl
is-empty (byte ∷ line) = not-none byte line

pub not-empty : (line : List ℕ) → not (length line == 0) ≡ not (is_empty line)
not-empty line = ap not (is-empty line)

pub map-map : {X Y Z : Type 0} (g : Y → Z) (f : X → Y) (xs : List X)
    → map g (map f xs) ≡ map (λ x. g (f x)) xs
map-map g f [] = refl
map-map g f (x ∷ xs) = ap (λ zs. g (f x) ∷ zs) (map-map g f xs)
