-- The items of a list before the first item that fails a test.
use Rattle.std.proofs.Common.{◌≡◌, Bool, true, false, not, cond, Some, List, [], ◌∷◌, map, refl, sym, ap, ◌∙◌}
use Rattle.std.specs.Prelude.{find, take_while}
use Rattle.std.proofs.lemmas.List.Sums.{take_while-cons}

module _ {X : Type 0} (p : X → Bool) (x : X) (xs : List X) where
  pub while-passes : p x ≡ true → take_while p (x ∷ xs) ≡ x ∷ take_while p xs
  while-passes is = take_while-cons p x xs ∙ ap (λ b. cond b (x ∷ take_while p xs) []) is

  pub while-fails : p x ≡ false → take_while p (x ∷ xs) ≡ []
  while-fails is = take_while-cons p x xs ∙ ap (λ b. cond b (x ∷ take_while p xs) []) is

  pub find-passes : p x ≡ true → find (λ y. not (p y)) (x ∷ xs) ≡ find (λ y. not (p y)) xs
  find-passes is = ap (λ b. cond (not b) (Some x) (find (λ y. not (p y)) xs)) is

  pub find-fails : p x ≡ false → find (λ y. not (p y)) (x ∷ xs) ≡ Some x
  find-fails is = ap (λ b. cond (not b) (Some x) (find (λ y. not (p y)) xs)) is

pub while-map : {X Y : Type 0} (p : Y → Bool) (f : X → Y) (xs : List X)
    → take_while p (map f xs) ≡ map f (take_while (λ x. p (f x)) xs)
while-map p f [] = refl
while-map {X} {Y} p f (x ∷ xs) =
    take_while-cons p (f x) (map f xs) ∙ by (p (f x)) (while-map p f xs)
    ∙ ap (map f) (sym (take_while-cons (λ y. p (f y)) x xs))
  where
    by : (b : Bool) → take_while p (map f xs) ≡ map f (take_while (λ y. p (f y)) xs)
        → cond b (f x ∷ take_while p (map f xs)) []
        ≡ map f (cond b (x ∷ take_while (λ y. p (f y)) xs) [])
    by true rest = ap (λ ys. f x ∷ ys) rest
    by false rest = refl
