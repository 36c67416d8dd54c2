-- The rules that are listed: their names rise, and which they are.
use Rattle.std.proofs.Common.{◌≡◌, ◌⊎◌, ◌==◌, inl, inr, ℕ, zero, suc, ◌<◌, Bool, true, false, cond}
use Rattle.std.proofs.Common.{if◌then◌else◌, List, [], ◌∷◌, map, length, get_or, bytes_eq, refl, sym, ap}
use Rattle.std.proofs.Common.{subst, ◌∙◌, true≢false, eqb-true, eq-eqb, arith, Ordering, Less, Equal, Greater}
use Rattle.std.specs.List.{AllByRecursion, Contains, filter, IsDistinct}
use Rattle.std.specs.List.Sorted.{IsPermutation, IsStrictlySortedBy}
use Rattle.std.specs.Cmp.Lexicographic.{slice_cmp}
use Rattle.std.specs.Ordering.{is_lt, is_eq, nat_cmp, ordering_reverse}
use Rattle.std.proofs.lemmas.Cmp.{nat_list_cmp_total}
use Rattle.std.proofs.lemmas.List.Elements.{All-contains, All-filter, All-contains_itself, filter_passes}
use Rattle.std.proofs.lemmas.List.Sorted.{IsPermutation-refl, IsPermutation-cons, IsPermutation-trans}
use Rattle.std.proofs.lemmas.List.Sorted.{IsPermutation-sym, IsPermutation-middle, Contains-permutation}
use Rattle.std.proofs.lemmas.Map.Text.{is_eq-slice_cmp}
use Rattle.nj_scope.specs.Rules.{RuleModel, rules_in, rule_names}
use Rattle.nj_scope.specs.ReadingList.{ReadStatement, rules_read}
use Rattle.nj_scope.proofs.NewRules.{EachRuleIsNew}
use Rattle.nj_scope.proofs.RuleNames.{names-distinct}
use Rattle.nj_graph.specs.Graph.{insert_by, sorted_by, is_before, main_rules_of, NamesRise, ListsMainRules}
use Rattle.nj_graph.proofs.SortLemmas.{sorted_by-map, all-insert, all-sorted}

-- ---- the names rise

abbrev order : List ℕ → List ℕ → Ordering
order = slice_cmp nat_cmp

above-all : (k y : List ℕ) (ys : List (List ℕ)) → order k y ≡ Less → AllByRecursion (λ z. order y z ≡ Less) ys
    → AllByRecursion (λ z. order k z ≡ Less) ys
above-all k y [] h all = tt
above-all k y (z ∷ ys) h all = (nat_list_cmp_total.trans k y z h all.0, above-all k y ys h all.1)

strict-insert : (k : List ℕ) (ks : List (List ℕ)) → AllByRecursion (λ y. bytes_eq k y ≡ false) ks
    → IsStrictlySortedBy order ks → IsStrictlySortedBy order (insert_by is_before k ks)
unfolding insert_by IsStrictlySortedBy
strict-insert k [] others up = (tt, tt)
strict-insert k (y ∷ ys) others up = by (order y k) refl (strict-insert k ys others.1 up.1)
  where
    turned : (o : Ordering) → order y k ≡ o → order k y ≡ ordering_reverse o
    turned o h = nat_list_cmp_total.antisymm k y ∙ ap ordering_reverse h

    by : (o : Ordering) → order y k ≡ o → IsStrictlySortedBy order (insert_by is_before k ys)
        → IsStrictlySortedBy order (if is_lt o then y ∷ insert_by is_before k ys else k ∷ y ∷ ys)
    by Less h rest = (all-insert is_before (λ z. order y z ≡ Less) k ys h up.0, rest)
    by Equal h rest = absurd (true≢false (sym (ap is_eq (turned Equal h)) ∙ is_eq-slice_cmp k y ∙ others.0))
    by Greater h rest = ((turned Greater h, above-all k y ys (turned Greater h) up.0), up)

pub strict-sorted : (ks : List (List ℕ)) → IsDistinct bytes_eq ks
    → IsStrictlySortedBy order (sorted_by is_before ks)
unfolding sorted_by IsDistinct IsStrictlySortedBy
strict-sorted [] distinct = tt
strict-sorted (k ∷ ks) distinct = strict-insert k (sorted_by is_before ks)
    (all-sorted is_before (λ y. bytes_eq k y ≡ false) ks distinct.0) (strict-sorted ks distinct.1)

pub names_rise : NamesRise
unfolding main_rules_of
names_rise rules distinct = subst (IsStrictlySortedBy order)
    (sym (sorted_by-map (λ r. r.name) is_before (rules_in rules 0)))
    (strict-sorted (rule_names rules 0) distinct)

-- they rise in a reading in which each rule was new as it was declared
pub names_rise-read : (entries : List ReadStatement) → EachRuleIsNew entries
    → IsStrictlySortedBy (slice_cmp nat_cmp) (map (λ r. r.name) (main_rules_of (rules_read entries)))
names_rise-read entries new = names_rise (rules_read entries) (names-distinct entries new 0)

-- ---- which they are

module _ {X : Type 0} where
  pub contains-here : (x : X) (xs : List X) → Contains (x ∷ xs) x
  contains-here x xs = (zero, omega arith, refl)

  pub contains-later : (x y : X) (xs : List X) → Contains xs y → Contains (x ∷ xs) y
  contains-later x y xs h = (suc h.0, omega (arith, h.1), h.2)

  pub contains-cases : (x y : X) (xs : List X) → Contains (x ∷ xs) y → (y ≡ x) ⊎ Contains xs y
  contains-cases x y xs h = by h.0 h.1 h.2
    where
      by : (k : ℕ) → k < length (x ∷ xs) → get_or (x ∷ xs) k y ≡ y → (y ≡ x) ⊎ Contains xs y
      by zero l e = inl (sym e)
      by (suc k) l e = inr (k, omega arith, e)

  contains-filter : (p : X → Bool) (xs : List X) (x : X) → p x ≡ true → Contains xs x
      → Contains (filter p xs) x
  contains-filter p [] x h c = absurd (omega (arith, c.1))
  contains-filter p (y ∷ xs) x h c = by (p y) refl (contains-cases y x xs c) (contains-filter p xs x h)
    where
      by : (b : Bool) → p y ≡ b → (x ≡ y) ⊎ Contains xs x → (Contains xs x → Contains (filter p xs) x)
          → Contains (cond b (y ∷ filter p xs) (filter p xs)) x
      by true k (inl e) rest = subst (λ z. Contains (y ∷ filter p xs) z) (sym e)
          (contains-here y (filter p xs))
      by true k (inr d) rest = contains-later y x (filter p xs) (rest d)
      by false k (inl e) rest = absurd (true≢false (sym h ∙ ap p e ∙ k))
      by false k (inr d) rest = rest d

  permuted-insert : (lt : X → X → Bool) (x : X) (ys : List X) → IsPermutation (x ∷ ys) (insert_by lt x ys)
  unfolding insert_by
  permuted-insert lt x [] = IsPermutation-refl (x ∷ [])
  permuted-insert lt x (y ∷ ys) = by (lt y x) (permuted-insert lt x ys)
    where
      by : (b : Bool) → IsPermutation (x ∷ ys) (insert_by lt x ys)
          → IsPermutation (x ∷ y ∷ ys) (if b then y ∷ insert_by lt x ys else x ∷ y ∷ ys)
      by true rest = IsPermutation-trans (x ∷ y ∷ ys) (y ∷ x ∷ ys) (y ∷ insert_by lt x ys)
          (IsPermutation-middle (x ∷ []) y ys) (IsPermutation-cons y (x ∷ ys) (insert_by lt x ys) rest)
      by false rest = IsPermutation-refl (x ∷ y ∷ ys)

  pub permuted-sorted : (lt : X → X → Bool) (xs : List X) → IsPermutation xs (sorted_by lt xs)
  unfolding sorted_by
  permuted-sorted lt [] = IsPermutation-refl []
  permuted-sorted lt (x ∷ xs) =
      IsPermutation-trans (x ∷ xs) (x ∷ sorted_by lt xs) (insert_by lt x (sorted_by lt xs))
      (IsPermutation-cons x xs (sorted_by lt xs) (permuted-sorted lt xs))
      (permuted-insert lt x (sorted_by lt xs))

listed-unsorted : (rules : List RuleModel) (rule : RuleModel) → Contains (rules_in rules 0) rule
    → (rule.scope ≡ 0) × Contains rules rule
listed-unsorted rules rule c = (
  sym (eqb-true 0 rule.scope (All-contains (λ r. (0 == r.scope) ≡ true) (rules_in rules 0) rule
      (filter_passes (λ r. 0 == r.scope) rules) c)),
  All-contains (Contains rules) (rules_in rules 0) rule
      (All-filter (λ r. 0 == r.scope) (Contains rules) rules (All-contains_itself rules)) c,
)

unsorted-listed : (rules : List RuleModel) (rule : RuleModel) → (rule.scope ≡ 0) × Contains rules rule
    → Contains (rules_in rules 0) rule
unsorted-listed rules rule c = contains-filter (λ r. 0 == r.scope) rules rule (eq-eqb 0 rule.scope (sym c.0))
    c.1

pub lists_main_rules : ListsMainRules
unfolding main_rules_of
lists_main_rules rules rule =
    let all : List RuleModel = rules_in rules 0 in
    let moved : IsPermutation all (sorted_by (λ r s. is_before r.name s.name) all) =
    permuted-sorted (λ r s. is_before r.name s.name) all in (
      λ h. listed-unsorted rules rule (Contains-permutation (sorted_by (λ r s. is_before r.name s.name) all)
          all rule (IsPermutation-sym all (sorted_by (λ r s. is_before r.name s.name) all) moved) h),
      λ h. Contains-permutation all (sorted_by (λ r s. is_before r.name s.name) all) rule moved
          (unsorted-listed rules rule h),
    )
