-- Lists that a loop makes longer, item by item.
use Rattle.std.proofs.Common.{◌≡◌, ◌<◌, ◌≤◌, ◌+◌, ℕ, Bool, Option, Some, None, List, []}
use Rattle.std.proofs.Common.{◌∷◌, ◌++◌, map, length, take, get_or, slice_get, unwrap_or, refl}
use Rattle.std.proofs.Common.{sym, ap, subst, ◌∙◌, append-nil, append_assoc, arith, drop, drop-cons, add-one}
use Rattle.std.proofs.Common.{suc}
use Rattle.std.specs.List.{cons_option, filter, filter_map, range_with_len}
use Rattle.std.proofs.lemmas.List.{drop_all, take_more}
use Rattle.std.proofs.lemmas.List.Elements.{filter-append, filter_map-append}
use Rattle.std.proofs.lemmas.Option.{get_or_from_slice_get, slice_get_cases, slice_get_within}
use Rattle.std.proofs.lemmas.List.FromFn.{map-range_with_len_more}

-- a list of items after another one has the values of the two
abbrev pub IsPiecewise : {X Y : Type 0} → (List X → List Y) → Type 0
IsPiecewise {X} {Y} all = (xs ys : List X) → all (xs ++ ys) ≡ all xs ++ all ys

pub map-append : {X Y : Type 0} (f : X → Y) (xs ys : List X) → map f (xs ++ ys) ≡ map f xs ++ map f ys
map-append f [] ys = refl
map-append f (x ∷ xs) ys = ap (λ zs. f x ∷ zs) (map-append f xs ys)

pub filter-map-append : {X Y : Type 0} (f : X → Y) (p : X → Bool) (xs ys : List X)
    → map f (filter p (xs ++ ys)) ≡ map f (filter p xs) ++ map f (filter p ys)
filter-map-append f p xs ys = ap (map f) (filter-append p xs ys) ∙ map-append f (filter p xs) (filter p ys)

map-same : (xs : List ℕ) → map (λ x. x) xs ≡ xs
map-same [] = refl
map-same (x ∷ xs) = ap (λ ys. x ∷ ys) (map-same xs)

-- one more number
pub numbers-more : (n : ℕ) → range_with_len 0 (n + 1) ≡ range_with_len 0 n ++ n ∷ []
numbers-more n =
    sym (map-same (range_with_len 0 (n + 1))) ∙ map-range_with_len_more (λ x. x) 0 n n (omega arith)
    ∙ ap (λ xs. xs ++ n ∷ []) (map-same (range_with_len 0 n))

module _ {X Y : Type 0} (all : List X → List Y) (whole : IsPiecewise all) (before text after : List Y) where
  -- the values of one more item
  pub more : (xs : List X) (x : X) → text ≡ before ++ all xs → after ≡ text ++ all (x ∷ [])
      → after ≡ before ++ all (xs ++ x ∷ [])
  more xs x is next =
      next ∙ ap (λ t. t ++ all (x ∷ [])) is ∙ append_assoc before (all xs) (all (x ∷ []))
      ∙ ap (λ t. before ++ t) (sym (whole xs (x ∷ [])))

-- the same at the numbers from 0
module _ {Y : Type 0} (all : List ℕ → List Y) (whole : IsPiecewise all) (before text after : List Y) where
  pub more-numbers : (n : ℕ) → text ≡ before ++ all (range_with_len 0 n) → after ≡ text ++ all (n ∷ [])
      → after ≡ before ++ all (range_with_len 0 (n + 1))
  more-numbers n is next =
      more all whole before text after (range_with_len 0 n) n is next
      ∙ ap (λ xs. before ++ all xs) (sym (numbers-more n))

  -- all of them
  pub all-numbers : (n count : ℕ) → n ≤ count → count ≤ n → text ≡ before ++ all (range_with_len 0 n)
      → text ≡ before ++ all (range_with_len 0 count)
  all-numbers n count up down is =
      let same : n ≡ count = omega arith in
      subst (λ m. text ≡ before ++ all (range_with_len 0 m)) same is

-- ---- items that are found at their index

pub take-next : {X : Type 0} (xs : List X) (i : ℕ) (x : X) → slice_get xs i ≡ Some x
    → take (i + 1) xs ≡ take i xs ++ x ∷ []
take-next xs i x is =
    take_more xs i x (slice_get_within xs i x is)
    ∙ ap (λ y. take i xs ++ y ∷ []) (get_or_from_slice_get xs i x x is)

pub past-none : {X : Type 0} (xs : List X) (i : ℕ) → slice_get xs i ≡ None → length xs ≤ i
past-none xs i none = grind (arith, slice_get_cases)

module _ {X Y : Type 0} (all : List X → List Y) (whole : IsPiecewise all) (before text after : List Y) where
  pub more-at : (items : List X) (i : ℕ) (x : X) → slice_get items i ≡ Some x
      → text ≡ before ++ all (take i items) → after ≡ text ++ all (x ∷ [])
      → after ≡ before ++ all (take (i + 1) items)
  more-at items i x here is next =
      more all whole before text after (take i items) x is next
      ∙ ap (λ xs. before ++ all xs) (sym (take-next items i x here))

-- ---- the values of one item

pub one-found : {X Y : Type 0} (h : X → Option Y) (x : X) (y : Y) → h x ≡ Some y
    → filter_map h (x ∷ []) ≡ y ∷ []
one-found h x y is = ap (λ o. cons_option o []) is

pub none-found : {X Y : Type 0} (h : X → Option Y) (x : X) → h x ≡ None → filter_map h (x ∷ []) ≡ []
none-found h x is = ap (λ o. cons_option o []) is

pub same : {X Y : Type 0} (all : List X → List Y) (x : X) (text : List Y) → all (x ∷ []) ≡ []
    → text ≡ text ++ all (x ∷ [])
same all x text is = sym (append-nil text) ∙ ap (λ t. text ++ t) (sym is)

-- ---- the paths of files

pub mapped-more : {X Y : Type 0} (f : X → Y) (items : List X) (i : ℕ) (d : X) → i < length items
    → map f (take i items) ++ f (get_or items i d) ∷ [] ≡ map f (take (i + 1) items)
mapped-more f items i d below = sym (ap (map f) (take_more items i d below)
    ∙ map-append f (take i items) (get_or items i d ∷ []))

-- the values found of one more item
pub found-more : {X Y : Type 0} (h : X → Option Y) (items : List X) (i : ℕ) (d : X) → i < length items
    → filter_map h (take i items) ++ cons_option (h (get_or items i d)) [] ≡ filter_map h (take (i + 1) items)
found-more h items i d below = sym (ap (filter_map h) (take_more items i d below)
    ∙ filter_map-append h (take i items) (get_or items i d ∷ []))

paths-of : {X : Type 0} (at : X → Option (List ℕ)) (ns : List X)
    → map (λ o. unwrap_or o []) (map at ns) ≡ map (λ n. unwrap_or (at n) []) ns
paths-of at [] = refl
paths-of at (n ∷ ns) = ap (λ ps. unwrap_or (at n) [] ∷ ps) (paths-of at ns)

-- ---- more

pub numbers-append : {Y : Type 0} (all : List ℕ → List Y) (whole : IsPiecewise all) (n : ℕ)
    → all (range_with_len 0 n) ++ all (n ∷ []) ≡ all (range_with_len 0 (n + 1))
numbers-append all whole n = sym (ap all (numbers-more n) ∙ whole (range_with_len 0 n) (n ∷ []))

pub none-is : {A : Type 0} (o : Option A) → ((x : A) → o ≡ Some x → ⊥) → o ≡ None
none-is None not = refl
none-is (Some x) not = elim (not x refl) [ ]

-- ---- what is left

-- the values of the first item come first
pub left-step : {X Y : Type 0} (all : List X → List Y) (whole : IsPiecewise all) (x : X) (others : List X)
    (text after : List Y) → after ≡ text ++ all (x ∷ []) → after ++ all others ≡ text ++ all (x ∷ others)
left-step all whole x others text after is =
    ap (λ t. t ++ all others) is ∙ append_assoc text (all (x ∷ [])) (all others)
    ∙ ap (λ t. text ++ t) (sym (whole (x ∷ []) others))

pub drop-next : {X : Type 0} (xs : List X) (i : ℕ) (x : X) → slice_get xs i ≡ Some x
    → drop i xs ≡ x ∷ drop (i + 1) xs
drop-next xs i x is =
    let below = slice_get_within xs i x is in
    rw (add-one, drop-cons xs i x) (ap (λ y. y ∷ drop (suc i) xs) (get_or_from_slice_get xs i x x is))

pub drop-past : {X : Type 0} (xs : List X) (i : ℕ) → slice_get xs i ≡ None → drop i xs ≡ drop (i + 1) xs
drop-past xs i none =
    let past = past-none xs i none in
    let more : length xs ≤ i + 1 = omega (arith, past) in
    drop_all i xs past ∙ sym (drop_all (i + 1) xs more)
