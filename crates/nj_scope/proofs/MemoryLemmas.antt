-- Lemmas on `specs/Memory.antt`.
use Rattle.std.proofs.Common.{arith, ◌≡◌, ℕ, Bool, true, false, cond, List, [], ◌∷◌, ◌++◌, map, reverse, find}
use Rattle.std.proofs.Common.{Option, Some, option_map, bytes_eq, refl, sym, ap, ◌∙◌}
use Rattle.std.proofs.lemmas.List.{map-append, reverse-append}
use Rattle.nj_scope.specs.Memory.{bytes_added}

-- a function may be applied before the list is reversed or after
pub reverse-map : {A B : Type 0} (f : A → B) (xs : List A) → reverse (map f xs) ≡ map f (reverse xs)
reverse-map f [] = refl
reverse-map f (x ∷ xs) = reverse-append (f x ∷ []) (map f xs) ∙ ap (λ ys. ys ++ f x ∷ []) (reverse-map f xs)
    ∙ sym (map-append f (reverse xs) (x ∷ [])) ∙ ap (map f) (sym (reverse-append (x ∷ []) xs))

-- the first that passes, seen by f
pub find-map : {A B : Type 0} (f : A → B) (p : B → Bool) (xs : List A)
    → find p (map f xs) ≡ option_map f (find (λ x. p (f x)) xs)
find-map f p [] = refl
find-map f p (x ∷ xs) = by (p (f x)) (find-map f p xs)
  where
    by : (b : Bool) → find p (map f xs) ≡ option_map f (find (λ y. p (f y)) xs)
        → cond b (Some (f x)) (find p (map f xs)) ≡ option_map f (cond b (Some x) (find (λ y. p (f y)) xs))
    by true rest = refl
    by false rest = rest

-- the last that passes, seen by f
pub find-reverse-map : {A B : Type 0} (f : A → B) (p : B → Bool) (xs : List A)
    → find p (reverse (map f xs)) ≡ option_map f (find (λ x. p (f x)) (reverse xs))
find-reverse-map f p xs = ap (find p) (reverse-map f xs) ∙ find-map f p (reverse xs)

option_map-option_map : {A B C : Type 0} (f : A → B) (g : B → C) (o : Option A)
    → option_map g (option_map f o) ≡ option_map (λ x. g (f x)) o
option_map-option_map f g o = grind arith

-- the bytes that were added last are the bytes of the last entry with the name, where f and g show an entry's
-- name and bytes
pub bytes_of_last : {A : Type 0} (f g : A → List ℕ) (name : List ℕ) (es : List A) (r : Option A)
    → r ≡ find (λ e. bytes_eq name (f e)) (reverse es)
    → option_map g r ≡ bytes_added (map (λ e. record { name = f e; bytes = g e }) es) name
bytes_of_last f g name es r e = grind (
  arith,
  option_map,
  option_map-option_map,
  find,
  bytes_eq,
  reverse,
  find-reverse-map,
)
