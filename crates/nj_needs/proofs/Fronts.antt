-- Lists that begin with other lists.
use Rattle.std.proofs.lemmas.Grind.{common_steps}
use Rattle.std.proofs.Common.{◌≡◌, ℕ, zero, suc, ◌≤◌, Bool, not, Some, List, [], ◌∷◌, ◌++◌, length, map, take}
use Rattle.std.proofs.Common.{filter, sym, ap, ◌∙◌, arith, append_assoc, length-append}
use Rattle.std.specs.Prelude.{nat_eq, slice_get}
use Rattle.std.specs.List.{flat_map}
use Rattle.std.proofs.lemmas.List.{append-nil, map-append}
use Rattle.std.proofs.lemmas.List.Concat.{flat_map-append}
use Rattle.std.proofs.lemmas.List.Elements.{filter-append}
use Rattle.nj_edges.specs.Repeats.{each_once}
use Rattle.nj_needs.specs.Marks.{without}
use Rattle.nj_needs.proofs.Striking.{without-none, without-cons}

-- ys begins with xs
abbrev pub IsFront : {X : Type 0} → (xs ys : List X) → Type 0
IsFront {X = X} xs ys = (more : List X) × (ys ≡ xs ++ more)

pub front-self : {X : Type 0} (xs : List X) → IsFront xs xs
front-self xs = ([], sym (append-nil xs))

pub front-append : {X : Type 0} (ts xs ys : List X) → IsFront xs ys → IsFront (ts ++ xs) (ts ++ ys)
front-append {X = X} ts xs ys h = (h.0, ap (λ (zs : List X). ts ++ zs) h.1 ∙ sym (append_assoc ts xs h.0))

pub front-map : {X Y : Type 0} (f : X → Y) (xs ys : List X) → IsFront xs ys → IsFront (map f xs) (map f ys)
front-map f xs ys h = (map f h.0, ap (map f) h.1 ∙ map-append f xs h.0)

pub front-flat_map : {X Y : Type 0} (f : X → List Y) (xs ys : List X) → IsFront xs ys
    → IsFront (flat_map f xs) (flat_map f ys)
front-flat_map f xs ys h = (flat_map f h.0, ap (flat_map f) h.1 ∙ flat_map-append f xs h.0)

-- a front of a list is at most as long as the list, and a front of the same length is the list
pub front-length : {X : Type 0} (xs ys : List X) → IsFront xs ys → length xs ≤ length ys
front-length xs ys h = omega (arith, ap length h.1, length-append xs h.0)

pub front-long : {X : Type 0} (xs ys : List X) → IsFront xs ys → length ys ≤ length xs → xs ≡ ys
front-long {X = X} xs ys h long = grind (arith, common_steps)

pub front-same : {X : Type 0} (xs ys : List X) → IsFront xs ys → IsFront ys xs → xs ≡ ys
front-same xs ys h k = front-long xs ys h (front-length ys xs k)

get_front : {X : Type 0} (xs more : List X) (p : ℕ) (x : X) → slice_get xs p ≡ Some x
    → slice_get (xs ++ more) p ≡ Some x
get_front [] more p x at = absurd cc
get_front (y ∷ xs) more zero x at = at
get_front (y ∷ xs) more (suc p) x at = get_front xs more p x at

pub front-get : {X : Type 0} (xs ys : List X) → IsFront xs ys → (p : ℕ) (x : X) → slice_get xs p ≡ Some x
    → slice_get ys p ≡ Some x
front-get {X = X} xs ys h p x at = ap (λ (zs : List X). slice_get zs p) h.1 ∙ get_front xs h.0 p x at

pub front-take : {X : Type 0} (xs ys : List X) → IsFront xs ys → (n : ℕ) → n ≡ length xs → take n ys ≡ xs
front-take xs ys h n is = grind (arith, common_steps)

-- ---- without repeats

-- a longer list without its repeats begins with the shorter list without its repeats
pub first-append : (xs ys : List ℕ) → each_once nat_eq (xs ++ ys)
    ≡ each_once nat_eq xs ++ without xs (each_once nat_eq ys)
first-append [] ys = sym (without-none (each_once nat_eq ys))
first-append (x ∷ xs) ys =
    let q : ℕ → Bool = λ y. not (nat_eq y x) in
    ap (λ (es : List ℕ). x ∷ filter q es) (first-append xs ys)
    ∙ ap (λ (es : List ℕ). x ∷ es) (filter-append q (each_once nat_eq xs) (without xs (each_once nat_eq ys)))
    ∙ ap (λ (es : List ℕ). x ∷ (filter q (each_once nat_eq xs) ++ es))
    (sym (without-cons x xs (each_once nat_eq ys)))

pub front-first : (xs ys : List ℕ) → IsFront xs ys → IsFront (each_once nat_eq xs) (each_once nat_eq ys)
front-first xs ys h = (without xs (each_once nat_eq h.0), ap (each_once nat_eq) h.1 ∙ first-append xs h.0)
