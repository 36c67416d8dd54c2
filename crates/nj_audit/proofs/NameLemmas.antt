-- Names in a set.
use Rattle.std.proofs.Common.{◌≡◌, ℕ, ◌||◌, Bool, true, false, List, [], ◌∷◌, ◌++◌, map, refl, sym, ap, subst}
use Rattle.std.proofs.Common.{◌∙◌, bytes_eq, cond}
use Rattle.std.specs.List.{list_any}
use Rattle.std.specs.BTreeSet.{insert_key}
use Rattle.std.specs.Cmp.Lexicographic.{slice_cmp}
use Rattle.std.specs.Ordering.{is_eq, match_ordering, nat_cmp}
use Rattle.std.specs.declared.cmp.Ordering.{Ordering}
use Rattle.std.specs.declared.cmp.Ordering.TheVariants.{Less, Equal, Greater}
use Rattle.std.proofs.lemmas.Map.Lookups.{exact_bytes}
use Rattle.std.proofs.lemmas.Map.Text.{is_eq-slice_cmp}
use Rattle.std.proofs.lemmas.Slice.Eq.{bytes_eq-Decides}
use Rattle.nj_names.specs.NameTables.{with_name}
use Rattle.nj_graph.specs.Edges.{is_among}

or-again : (b r : Bool) → (b || r) ≡ (b || (b || r))
or-again true r = refl
or-again false r = refl

or-swap : (a b r : Bool) → (a || (b || r)) ≡ (b || (a || r))
or-swap true true r = refl
or-swap true false r = refl
or-swap false b r = refl

or-assoc : (a b r : Bool) → (a || (b || r)) ≡ ((a || b) || r)
or-assoc true b r = refl
or-assoc false b r = refl

module _ {X : Type 0} (bytes : X → List ℕ) where
  pub found-is : (keys : List X) (name : List ℕ)
      → list_any (λ k. is_eq (slice_cmp nat_cmp name (bytes k))) keys ≡ is_among (map bytes keys) name
  found-is [] name = refl
  found-is (k ∷ ks) name =
      ap (λ b. b || list_any (λ k. is_eq (slice_cmp nat_cmp name (bytes k))) ks)
      (is_eq-slice_cmp name (bytes k))
      ∙ ap (λ b. bytes_eq name (bytes k) || b) (found-is ks name)

  abbrev order : X → X → Ordering
  order x y = slice_cmp nat_cmp (bytes x) (bytes y)

  put-one : (o : Ordering) (k x : X) (xs rest : List X) (other : List ℕ) → order k x ≡ o
      → is_among (map bytes rest) other ≡ (bytes_eq other (bytes k) || is_among (map bytes xs) other)
      → is_among (map bytes (match_ordering o (k ∷ x ∷ xs) (x ∷ xs) (x ∷ rest))) other
      ≡ (bytes_eq other (bytes k) || (bytes_eq other (bytes x) || is_among (map bytes xs) other))
  put-one Less k x xs rest other is more = refl
  put-one Equal k x xs rest other is more =
      subst (λ name. (bytes_eq other (bytes x) || is_among (map bytes xs) other)
      ≡ (bytes_eq other name || (bytes_eq other (bytes x) || is_among (map bytes xs) other)))
      (sym (exact_bytes (bytes k) (bytes x) is))
      (or-again (bytes_eq other (bytes x)) (is_among (map bytes xs) other))
  put-one Greater k x xs rest other is more =
      ap (λ b. bytes_eq other (bytes x) || b) more
      ∙ or-swap (bytes_eq other (bytes x)) (bytes_eq other (bytes k)) (is_among (map bytes xs) other)

  pub put-is : (keys : List X) (k : X) (other : List ℕ)
      → is_among (map bytes (insert_key order keys k)) other
      ≡ (bytes_eq other (bytes k) || is_among (map bytes keys) other)
  put-is [] k other = refl
  put-is (x ∷ xs) k other = put-one (order k x) k x xs (insert_key order xs k) other refl (put-is xs k other)

-- ---- names that a loop adds

-- names have the same members as a list
abbrev pub AreNames : (names list : List (List ℕ)) → Type 0
AreNames names list = (name : List ℕ) → is_among names name ≡ is_among list name

among-append : (xs ys : List (List ℕ)) (name : List ℕ)
    → is_among (xs ++ ys) name ≡ (is_among xs name || is_among ys name)
among-append [] ys name = refl
among-append (x ∷ xs) ys name = ap (λ b. bytes_eq name x || b) (among-append xs ys name)
    ∙ or-assoc (bytes_eq name x) (is_among xs name) (is_among ys name)

or-turned : (b r : Bool) → (b || r) ≡ (r || (b || false))
or-turned true true = refl
or-turned true false = refl
or-turned false true = refl
or-turned false false = refl

-- one more name
pub one-more : (old new list : List (List ℕ)) (name : List ℕ)
    → ((other : List ℕ) → is_among new other ≡ (bytes_eq other name || is_among old other))
    → AreNames old list → AreNames new (list ++ name ∷ [])
one-more old new list name adds are other =
    adds other ∙ ap (λ b. bytes_eq other name || b) (are other)
    ∙ or-turned (bytes_eq other name) (is_among list other)
    ∙ sym (among-append list (name ∷ []) other)

-- several more names
pub all-more : (old new list names : List (List ℕ))
    → ((other : List ℕ) → is_among new other ≡ is_among (old ++ names) other) → AreNames old list
    → AreNames new (list ++ names)
all-more old new list names adds are other =
    adds other ∙ among-append old names other ∙ ap (λ b. b || is_among names other) (are other)
    ∙ sym (among-append list names other)

-- a name is added, unless it is in the set
pub among-with : (names : List (List ℕ)) (name other : List ℕ)
    → is_among (with_name names name) other ≡ (bytes_eq other name || is_among names other)
among-with names name other = by (is_among names name) refl
  where
    known : (a : Bool) → (a ≡ true → is_among names other ≡ true)
        → is_among names other ≡ (a || is_among names other)
    known true is = is refl
    known false is = refl

    by : (b : Bool) → is_among names name ≡ b
        → is_among (cond (is_among names name) names (names ++ name ∷ [])) other
        ≡ (bytes_eq other name || is_among names other)
    by true is = rw is (known (bytes_eq other name)
        (λ same. ap (is_among names) ((bytes_eq-Decides other name).0 same) ∙ is))
    by false is = rw is (among-append names (name ∷ []) other
        ∙ sym (or-turned (bytes_eq other name) (is_among names other)))

-- one less is left
pub one-less : (names : List (List ℕ)) (name other : List ℕ) (left : Bool)
    → (is_among (with_name names name) other || left)
    ≡ (is_among names other || (bytes_eq other name || left))
one-less names name other left =
    ap (λ b. b || left) (among-with names name other)
    ∙ or-moved (bytes_eq other name) (is_among names other) left
  where
    or-moved : (a b r : Bool) → ((a || b) || r) ≡ (b || (a || r))
    or-moved true true r = refl
    or-moved true false r = refl
    or-moved false b r = refl
