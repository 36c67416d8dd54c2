-- How the requested rules are looked up by name.
use Rattle.std.proofs.Common.{◌≡◌, ◌≢◌, ℕ, zero, suc, ◌<◌, ◌≤◌, Bool, true, false, ◌||◌, List, [], ◌∷◌}
use Rattle.std.proofs.Common.{map, length, get_or, Result, Ok, Err, refl, sym, ap, ◌∙◌, ⊎_elim, bytes_eq}
use Rattle.std.proofs.Common.{arith}
use Rattle.std.specs.Prelude.{is_ok}
use Rattle.std.specs.List.Sorted.{IsPermutation, IsSortedBy, IsBinarySearchResult, IsSearchInRange}
use Rattle.std.specs.Cmp.Lexicographic.{slice_cmp, texts_ties}
use Rattle.std.specs.Ordering.{nat_cmp, is_eq, ordering_reverse}
use Rattle.std.specs.declared.cmp.Ordering.{Ordering}
use Rattle.std.specs.declared.cmp.Ordering.TheVariants.{Less, Equal, Greater}
use Rattle.std.proofs.lemmas.Bool.{cases_lt}
use Rattle.std.proofs.lemmas.Cmp.{nat_list_cmp_total}
use Rattle.std.proofs.lemmas.List.Sorted.{searchable_from_sorted, list_any-IsPermutation, length_permutation}
use Rattle.std.proofs.lemmas.List.Sorted.{IsPermutation-map}
use Rattle.nj_text.specs.Calls.{is_empty}
use Rattle.nj_edges.specs.Edges.{is_among}
use Rattle.nj_graph.specs.Graph.{is_before}
use Rattle.nj_tools.specs.Compdb.{is_chosen}

module _ {X : Type 0} (bytes : X → List ℕ) where
  -- ---- a name among others

  among-at : (rule : List ℕ) (xs : List X) (i : ℕ) → i < length xs
      → ((d : X) → bytes_eq rule (bytes (get_or xs i d)) ≡ true) → is_among (map bytes xs) rule ≡ true
  among-at rule [] i below same = absurd (omega (arith, below))
  among-at rule (x ∷ xs) zero below same = ap (λ b. b || is_among (map bytes xs) rule) (same x)
  among-at rule (x ∷ xs) (suc i) below same =
      or-right (bytes_eq rule (bytes x)) (among-at rule xs i (omega (arith, below)) same)
    where
      or-right : (b : Bool) {c : Bool} → c ≡ true → b || c ≡ true
      or-right true h = refl
      or-right false h = h

  none-among : (rule : List ℕ) (xs : List X)
      → ((i : ℕ) (d : X) → i < length xs → bytes_eq rule (bytes (get_or xs i d)) ≡ false)
      → is_among (map bytes xs) rule ≡ false
  none-among rule [] differs = refl
  none-among rule (x ∷ xs) differs =
      ap (λ b. b || is_among (map bytes xs) rule) (differs 0 x (omega arith))
      ∙ none-among rule xs (λ i d below. differs (suc i) d (omega (arith, below)))

  -- two names tie in the order exactly if they are equal
  tie : (rule name : List ℕ) → slice_cmp nat_cmp name rule ≡ Equal → bytes_eq rule name ≡ true
  tie rule name equal = texts_ties rule name
      ∙ ap is_eq (nat_list_cmp_total.antisymm rule name ∙ ap ordering_reverse equal)

  apart : (rule name : List ℕ) (o : Ordering) → o ≢ Equal → slice_cmp nat_cmp name rule ≡ o
      → bytes_eq rule name ≡ false
  apart rule name Less other is = texts_ties rule name
      ∙ ap is_eq (nat_list_cmp_total.antisymm rule name ∙ ap ordering_reverse is)
  apart rule name Equal other is = absurd (other refl)
  apart rule name Greater other is = texts_ties rule name
      ∙ ap is_eq (nat_list_cmp_total.antisymm rule name ∙ ap ordering_reverse is)

  -- the result of a binary search, in names by their bytes
  pub search-is : (xs : List X) (rule : List ℕ) (result : Result ℕ ℕ)
      → IsSortedBy (λ x y. is_before (bytes x) (bytes y)) xs → IsSearchInRange result (length xs)
      → IsBinarySearchResult (λ x. slice_cmp nat_cmp (bytes x) rule) xs result
      → is_ok result ≡ is_among (map bytes xs) rule
  search-is xs rule (Ok i) up below found =
      sym (among-at rule xs i below (λ d. tie rule (bytes (get_or xs i d)) (found d)))
  search-is xs rule (Err i) up below found =
      let parted = found (searchable_from_sorted nat_list_cmp_total bytes xs rule up) in
      sym (none-among rule xs (λ k d within.
      ⊎_elim
      (λ (l : k < i). apart rule (bytes (get_or xs k d)) Less (λ h. absurd cc) (parted.0 k d (omega arith) l))
      (λ (l : i ≤ k). apart rule (bytes (get_or xs k d)) Greater (λ h. absurd cc) (parted.1 k d l within))
      (cases_lt k i)))

  -- if there are any names
  pub chosen-found : (xs : List X) (rule : List ℕ) (found : Bool) → (length xs ≡ 0 → ⊥)
      → found ≡ is_among (map bytes xs) rule → found ≡ is_chosen (map bytes xs) rule
  chosen-found [] rule found some is = absurd (some refl)
  chosen-found (x ∷ xs) rule found some is = is

  -- ---- in another order

  any-same : (xs ys : List (List ℕ)) → length xs ≡ length ys → is_empty xs ≡ is_empty ys
  any-same [] [] same = refl
  any-same [] (y ∷ ys) same = absurd (omega (arith, same))
  any-same (x ∷ xs) [] same = absurd (omega (arith, same))
  any-same (x ∷ xs) (y ∷ ys) same = refl

  pub chosen-same : (names : List (List ℕ)) (xs ys : List X) → map bytes xs ≡ names → IsPermutation xs ys
      → (rule : List ℕ) → is_chosen (map bytes ys) rule ≡ is_chosen names rule
  chosen-same names xs ys all moved rule =
      let names_moved = IsPermutation-map bytes xs ys moved in
      let any = any-same (map bytes xs) (map bytes ys)
      (sym (length_permutation (map bytes xs) (map bytes ys) names_moved)) in
      let among = list_any-IsPermutation (bytes_eq rule) (map bytes xs) (map bytes ys) names_moved in
      ap (λ b. b || is_among (map bytes ys) rule) (sym any)
      ∙ ap (λ b. is_empty (map bytes xs) || b) (sym among)
      ∙ ap (λ n. is_chosen n rule) all
