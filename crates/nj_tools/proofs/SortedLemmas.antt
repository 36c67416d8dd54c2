-- The result of a sort by strings, and lists that are sorted in two parts.
use Rattle.std.proofs.Common.{◌≡◌, ℕ, Bool, true, false, not, cond, if◌then◌else◌, List, [], ◌∷◌}
use Rattle.std.proofs.Common.{◌++◌, map, refl, sym, ap, ◌∙◌}
use Rattle.std.specs.Prelude.{filter}
use Rattle.std.specs.List.{AllByRecursion}
use Rattle.std.specs.List.Sorted.{IsSortedBy, IsStableBy}
use Rattle.std.specs.Cmp.{IsStrictWeakOrder}
use Rattle.std.proofs.lemmas.Cmp.{nat_list_cmp_total}
use Rattle.std.proofs.lemmas.List.Sorted.{ranks_by}
use Rattle.nj_graph.specs.Graph.{is_before, insert_by, sorted_by}
use Rattle.nj_graph.proofs.SortLemmas.{sorted_by-map, stable_sort-is, all-sorted}
use Rattle.nj_tools.specs.Listings.{sorted}

module _ {X : Type 0} (text : X → List ℕ) where
  abbrev pub comes_before : X → X → Bool
  comes_before x y = is_before (text x) (text y)

  pub by_text : IsStrictWeakOrder comes_before
  by_text = ranks_by nat_list_cmp_total text

  pub sorted-strings : (xs ys : List X) → IsSortedBy comes_before ys → IsStableBy comes_before xs ys
      → map text ys ≡ sorted (map text xs)
  sorted-strings xs ys up stable = ap (map text) (stable_sort-is comes_before by_text xs ys up stable)
      ∙ sorted_by-map text is_before xs

-- ---- elements that pass a test come before the others

module _ {X : Type 0} (p : X → Bool) where
  passing-all : (xs : List X) → AllByRecursion (λ x. p x ≡ true) (filter p xs)
  passing-all [] = tt
  passing-all (x ∷ xs) = by (p x) refl (passing-all xs)
    where
      by : (b : Bool) → p x ≡ b → AllByRecursion (λ y. p y ≡ true) (filter p xs)
          → AllByRecursion (λ y. p y ≡ true) (cond b (x ∷ filter p xs) (filter p xs))
      by true is rest = (is, rest)
      by false is rest = rest

  failing-all : (xs : List X) → AllByRecursion (λ x. p x ≡ false) (filter (λ x. not (p x)) xs)
  failing-all [] = tt
  failing-all (x ∷ xs) = by (p x) refl (failing-all xs)
    where
      others : List X
      others = filter (λ y. not (p y)) xs

      by : (b : Bool) → p x ≡ b → AllByRecursion (λ y. p y ≡ false) others
          → AllByRecursion (λ y. p y ≡ false) (cond (not b) (x ∷ others) others)
      by true is rest = rest
      by false is rest = (is, rest)

  module _ (lt : X → X → Bool) (apart : (x y : X) → p x ≡ true → p y ≡ false
      → (lt x y ≡ true) × (lt y x ≡ false)) where
    insert-passing : (x : X) (ys zs : List X) → p x ≡ true → AllByRecursion (λ z. p z ≡ false) zs
        → insert_by lt x (ys ++ zs) ≡ insert_by lt x ys ++ zs
    unfolding insert_by
    insert-passing x [] [] is all = refl
    insert-passing x [] (z ∷ zs) is all = ap (λ b. if b then z ∷ insert_by lt x zs else x ∷ z ∷ zs)
        (apart x z is all.0).1
    insert-passing x (y ∷ ys) zs is all = by (lt y x) (insert-passing x ys zs is all)
      where
        by : (b : Bool) → insert_by lt x (ys ++ zs) ≡ insert_by lt x ys ++ zs
            → (if b then y ∷ insert_by lt x (ys ++ zs) else x ∷ y ∷ (ys ++ zs))
            ≡ (if b then y ∷ insert_by lt x ys else x ∷ y ∷ ys) ++ zs
        by true rest = ap (λ ws. y ∷ ws) rest
        by false rest = refl

    insert-failing : (x : X) (ys zs : List X) → p x ≡ false → AllByRecursion (λ y. p y ≡ true) ys
        → insert_by lt x (ys ++ zs) ≡ ys ++ insert_by lt x zs
    unfolding insert_by
    insert-failing x [] zs is all = refl
    insert-failing x (y ∷ ys) zs is all =
        ap (λ b. if b then y ∷ insert_by lt x (ys ++ zs) else x ∷ y ∷ (ys ++ zs)) (apart y x all.0 is).0
        ∙ ap (λ ws. y ∷ ws) (insert-failing x ys zs is all.1)

    -- each part is sorted apart
    pub sorted-parts : (xs : List X) → sorted_by lt (filter p xs) ++ sorted_by lt (filter (λ x. not (p x)) xs)
        ≡ sorted_by lt xs
    unfolding sorted_by
    sorted-parts [] = refl
    sorted-parts (x ∷ xs) = by (p x) refl (sorted-parts xs)
      where
        passing : List X
        passing = filter p xs

        others : List X
        others = filter (λ y. not (p y)) xs

        by : (b : Bool) → p x ≡ b → sorted_by lt passing ++ sorted_by lt others ≡ sorted_by lt xs
            → sorted_by lt (cond b (x ∷ passing) passing) ++ sorted_by lt (cond (not b) (x ∷ others) others)
            ≡ insert_by lt x (sorted_by lt xs)
        by true is rest = sym (insert-passing x (sorted_by lt passing) (sorted_by lt others) is
            (all-sorted lt (λ z. p z ≡ false) others (failing-all xs))) ∙ ap (insert_by lt x) rest
        by false is rest = sym (insert-failing x (sorted_by lt passing) (sorted_by lt others) is
            (all-sorted lt (λ z. p z ≡ true) passing (passing-all xs))) ∙ ap (insert_by lt x) rest
