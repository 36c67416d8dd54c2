-- Lists that a loop makes longer, item by item.
use Rattle.std.proofs.Common.{◌≡◌, ◌<◌, ◌+◌, ℕ, zero, suc, Bool, true, false, cond, Option, Some, None, List}
use Rattle.std.proofs.Common.{[]}
use Rattle.std.proofs.Common.{◌∷◌, ◌++◌, map}
use Rattle.std.proofs.Common.{length, take, slice_get, option_map, get_or, unwrap_or, refl, sym, ap, subst}
use Rattle.std.proofs.Common.{◌∙◌}
use Rattle.std.proofs.Common.{append-nil, arith}
use Rattle.std.specs.List.{All, cons_option, filter, filter_map, flat_map, range_with_len}
use Rattle.std.proofs.lemmas.List.{flat_map_more, map_push, take_more}
use Rattle.std.proofs.lemmas.List.Elements.{All-push, filter-append, filter_map-append}
use Rattle.std.proofs.lemmas.List.FromFn.{map-range_with_len_more}
use Rattle.nj_graph.specs.declared.FileNo.{FileNo}
use Rattle.nj_graph.specs.EdgeList.{Pending}

-- the values found of one more item
pub filter-more : {X Y : Type 0} (h : X → Option Y) (items : List X) (i : ℕ) (d : X) → i < length items
    → filter_map h (take (i + 1) items) ≡ filter_map h (take i items) ++ cons_option (h (get_or items i d)) []
filter-more h items i d below = ap (filter_map h) (take_more items i d below)
    ∙ filter_map-append h (take i items) (get_or items i d ∷ [])

-- the values of one more item
pub mapped-more : {X Y : Type 0} (f : X → Y) (items : List X) (i : ℕ) (d : X) → i < length items
    → map f (take i items) ++ f (get_or items i d) ∷ [] ≡ map f (take (i + 1) items)
mapped-more f items i d below = sym (ap (map f) (take_more items i d below)
    ∙ map_push f (take i items) (get_or items i d))

pub filter-map-map : {X Y Z : Type 0} (h : Y → Option Z) (f : X → Y) (xs : List X)
    → filter_map h (map f xs) ≡ filter_map (λ x. h (f x)) xs
filter-map-map h f [] = refl
filter-map-map h f (x ∷ xs) = ap (cons_option (h (f x))) (filter-map-map h f xs)

pub map-map : {X Y Z : Type 0} (g : Y → Z) (f : X → Y) (xs : List X)
    → map g (map f xs) ≡ map (λ x. g (f x)) xs
map-map g f [] = refl
map-map g f (x ∷ xs) = ap (λ zs. g (f x) ∷ zs) (map-map g f xs)

pub none-is : {A : Type 0} (o : Option A) → ((x : A) → o ≡ Some x → ⊥) → o ≡ None
none-is None not = refl
none-is (Some x) not = elim (not x refl) [ ]

-- ---- numbers

map-same : (ns : List ℕ) → map (λ n. n) ns ≡ ns
map-same [] = refl
map-same (n ∷ ns) = ap (λ ms. n ∷ ms) (map-same ns)

-- one more number
pub numbers-more : (n : ℕ) → range_with_len 0 (n + 1) ≡ range_with_len 0 n ++ n ∷ []
numbers-more n =
    sym (map-same (range_with_len 0 (n + 1))) ∙ map-range_with_len_more (λ m. m) 0 n n (omega arith)
    ∙ ap (λ ns. ns ++ n ∷ []) (map-same (range_with_len 0 n))

-- the text of one more number
pub flat-number : (f : ℕ → List ℕ) (text after : List ℕ) (n : ℕ) → text ≡ flat_map f (range_with_len 0 n)
    → after ≡ text ++ f n
    → after ≡ flat_map f (range_with_len 0 (n + 1))
flat-number f text after n is more =
    more ∙ ap (λ t. t ++ f n) is ∙ flat_map_more f [] (range_with_len 0 n) n
    ∙ ap (flat_map f) (sym (numbers-more n))

-- the value found of one more number
pub found-number : {Y : Type 0} (h : ℕ → Option Y) (n : ℕ)
    → filter_map h (range_with_len 0 (n + 1)) ≡ filter_map h (range_with_len 0 n) ++ cons_option (h n) []
found-number h n = ap (filter_map h) (numbers-more n) ∙ filter_map-append h (range_with_len 0 n) (n ∷ [])

-- files that are found by numbers, one more
module _ (h : ℕ → Option ℕ) (n : ℕ) (found : List FileNo)
    (held : map (λ (f : FileNo). f.0) found ≡ filter_map h (range_with_len 0 n)) where
  pub number-found : (new : List FileNo) (file : FileNo) → h n ≡ Some file.0 → new ≡ found ++ file ∷ []
      → map (λ (f : FileNo). f.0) new ≡ filter_map h (range_with_len 0 (n + 1))
  number-found new file is more =
      ap (map (λ (f : FileNo). f.0)) more ∙ map_push (λ (f : FileNo). f.0) found file
      ∙ ap (λ ns. ns ++ file.0 ∷ []) held
      ∙ sym (found-number h n ∙ ap (λ o. filter_map h (range_with_len 0 n) ++ cons_option o []) is)

  pub number-none : h n ≡ None → map (λ (f : FileNo). f.0) found ≡ filter_map h (range_with_len 0 (n + 1))
  number-none is =
      held ∙ sym (found-number h n ∙ ap (λ o. filter_map h (range_with_len 0 n) ++ cons_option o []) is
      ∙ append-nil (filter_map h (range_with_len 0 n)))

-- the numbers that pass a test, with one more, if it passes
module _ (p : ℕ → Bool) (n : ℕ) (found new : List FileNo) (file : FileNo) where
  passing : filter p (range_with_len 0 (n + 1)) ≡ filter p (range_with_len 0 n) ++ cond (p n) (n ∷ []) []
  passing = ap (filter p) (numbers-more n) ∙ filter-append p (range_with_len 0 n) (n ∷ [])

  pub number-pushed : (b : Bool) → file.0 ≡ n → b ≡ p n → new ≡ found ++ cond b (file ∷ []) []
      → map (λ (f : FileNo). f.0) found ≡ filter p (range_with_len 0 n)
      → map (λ (f : FileNo). f.0) new ≡ filter p (range_with_len 0 (n + 1))
  number-pushed true same is more held =
      ap (map (λ (f : FileNo). f.0)) more ∙ map_push (λ (f : FileNo). f.0) found file
      ∙ ap (λ ns. ns ++ file.0 ∷ []) held ∙ ap (λ m. filter p (range_with_len 0 n) ++ m ∷ []) same
      ∙ sym (passing ∙ ap (λ b. filter p (range_with_len 0 n) ++ cond b (n ∷ []) []) (sym is))
  number-pushed false same is more held =
      ap (map (λ (f : FileNo). f.0)) (more ∙ append-nil found) ∙ held
      ∙ sym (passing ∙ ap (λ b. filter p (range_with_len 0 n) ++ cond b (n ∷ []) []) (sym is)
      ∙ append-nil (filter p (range_with_len 0 n)))

pub known-pushed : (P : FileNo → Type 0) (found new : List FileNo) (file : FileNo) (b : Bool)
    → new ≡ found ++ cond b (file ∷ []) [] → All P found → P file → All P new
known-pushed P found new file true more all one = subst (All P) (sym more) (All-push P found file all one)
known-pushed P found new file false more all one = subst (All P) (sym (more ∙ append-nil found)) all

-- the pending edge of a number
pub edge-at : (o : Option Pending) (n : ℕ) → option_map (λ p. p.edge) o ≡ Some n
    → (p : Pending) × (o ≡ Some p) × (p.edge ≡ n)
edge-at None n h = absurd cc
edge-at (Some p) n h = (p, refl, same p.edge h)
  where
    same : (m : ℕ) → Some m ≡ Some n → m ≡ n
    same m e = cc

-- the same, by the numbers of some things
module _ {X : Type 0} (h : X → Option ℕ) (things : List X) (i : ℕ) (x : X) (at : slice_get things i ≡ Some x)
    (found : List FileNo)
    (held : map (λ (f : FileNo). f.0) found ≡ filter_map h (take i things)) where
  taken : take (i + 1) things ≡ take i things ++ x ∷ []
  taken = ap (λ n. take n things) (let more : i + 1 ≡ suc i = omega arith in more) ∙ by things i at
    where
      some-is : (y z : X) → Some y ≡ Some z → y ≡ z
      some-is y z e = cc

      by : (ys : List X) (j : ℕ) → slice_get ys j ≡ Some x → take (suc j) ys ≡ take j ys ++ x ∷ []
      by [] j e = absurd cc
      by (y ∷ ys) zero e = ap (λ z. z ∷ []) (some-is y x e)
      by (y ∷ ys) (suc j) e = ap (λ zs. y ∷ zs) (by ys j e)

  found-next : filter_map h (take (i + 1) things) ≡ filter_map h (take i things) ++ cons_option (h x) []
  found-next = ap (filter_map h) taken ∙ filter_map-append h (take i things) (x ∷ [])

  pub thing-found : (new : List FileNo) (file : FileNo) → h x ≡ Some file.0 → new ≡ found ++ file ∷ []
      → map (λ (f : FileNo). f.0) new ≡ filter_map h (take (i + 1) things)
  thing-found new file is more =
      ap (map (λ (f : FileNo). f.0)) more ∙ map_push (λ (f : FileNo). f.0) found file
      ∙ ap (λ ns. ns ++ file.0 ∷ []) held
      ∙ sym (found-next ∙ ap (λ o. filter_map h (take i things) ++ cons_option o []) is)

  pub thing-none : h x ≡ None → map (λ (f : FileNo). f.0) found ≡ filter_map h (take (i + 1) things)
  thing-none is =
      held
      ∙ sym (found-next ∙ ap (λ o. filter_map h (take i things) ++ cons_option o []) is
      ∙ append-nil (filter_map h (take i things)))

-- ---- the paths of files

paths-of : {X : Type 0} (at : X → Option (List ℕ)) (ns : List X)
    → map (λ o. unwrap_or o []) (map at ns) ≡ map (λ n. unwrap_or (at n) []) ns
paths-of at [] = refl
paths-of at (n ∷ ns) = ap (λ ps. unwrap_or (at n) [] ∷ ps) (paths-of at ns)

paths-some : (paths : List (List ℕ)) → map (λ o. unwrap_or o []) (map Some paths) ≡ paths
paths-some [] = refl
paths-some (path ∷ paths) = ap (λ ps. path ∷ ps) (paths-some paths)

pub files-paths : {X : Type 0} (at : X → Option (List ℕ)) (ns : List X) (paths : List (List ℕ))
    → map at ns ≡ map Some paths → map (λ n. unwrap_or (at n) []) ns ≡ paths
files-paths at ns paths are = sym (paths-of at ns) ∙ ap (map (λ o. unwrap_or o [])) are ∙ paths-some paths
