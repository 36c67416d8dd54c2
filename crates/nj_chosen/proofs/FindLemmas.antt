-- How numbers are found, one after another.
use Rattle.std.proofs.Common.{◌≡◌, ◌<◌, ◌≤◌, ◌+◌, ◌⊎◌, inl, inr, ℕ, Bool, true, false, cond, List, [], ◌∷◌}
use Rattle.std.proofs.Common.{◌++◌}
use Rattle.std.proofs.Common.{length, take, get_or, refl, sym, ap, subst, ◌∙◌, append-nil, append_assoc}
use Rattle.std.specs.Prelude.{Contains}
use Rattle.std.proofs.lemmas.List.{take_all, take_more}
use Rattle.std.proofs.lemmas.List.Elements.{Contains-append_left, Contains-push, Contains-push_cases}
use Rattle.nj_names.specs.NumberSets.{NumberSetModel, has, with_number}
use Rattle.nj_names.proofs.NumberLemmas.{has-contains}
use Rattle.nj_chosen.specs.Inside.Bringing.{FindsMore}

-- what was found stays
pub found-stays : (P : ℕ → Type 0) (old new : NumberSetModel) → FindsMore P old new → (n : ℕ)
    → Contains old.numbers n → Contains new.numbers n
found-stays P old new finds n has =
    subst (λ ns. Contains ns n) (sym finds.more) (Contains-append_left old.numbers finds.added n has)

pub finds-none : (P : ℕ → Type 0) (found : NumberSetModel) → ((n : ℕ) → P n → Contains found.numbers n)
    → FindsMore P found found
finds-none P found all = record {
  limit = refl;
  all = all;
  fresh = λ n has. inl has;
  added = [];
  more = sym (append-nil found.numbers);
}

pub finds-then : (P Q R : ℕ → Type 0) (old mid new : NumberSetModel) → ((n : ℕ) → P n → R n)
    → ((n : ℕ) → Q n → R n) → ((n : ℕ) → R n → P n ⊎ Q n) → FindsMore P old mid → FindsMore Q mid new
    → FindsMore R old new
finds-then P Q R old mid new left right both a b = record {
  limit = b.limit ∙ a.limit;
  all = λ n is. elim (both n is) [ inl p ↦ found-stays Q mid new b n (a.all n p) | inr q ↦ b.all n q ];
  fresh = λ n has. elim (b.fresh n has) [
    | inl before ↦ elim (a.fresh n before) [ inl first ↦ inl first | inr p ↦ inr (left n p) ]
    | inr q ↦ inr (right n q)
  ];
  added = a.added ++ b.added;
  more = b.more ∙ ap (λ ns. ns ++ b.added) a.more ∙ append_assoc old.numbers a.added b.added;
}

-- the same, by another description
pub finds-same : (P Q : ℕ → Type 0) (old new : NumberSetModel) → ((n : ℕ) → P n → Q n)
    → ((n : ℕ) → Q n → P n ⊎ Contains old.numbers n) → FindsMore P old new → FindsMore Q old new
finds-same P Q old new to back finds = record {
  limit = finds.limit;
  all = λ n q. elim (back n q) [ inl p ↦ finds.all n p | inr was ↦ found-stays P old new finds n was ];
  fresh = λ n has. elim (finds.fresh n has) [ inl was ↦ inl was | inr p ↦ inr (to n p) ];
  added = finds.added;
  more = finds.more;
}

-- one number
pub finds-one : (old : NumberSetModel) (number : ℕ)
    → FindsMore (λ n. n ≡ number) old (record old { numbers = with_number old.numbers number })
finds-one old number = by (has old.numbers number) refl
  where
    by : (b : Bool) → has old.numbers number ≡ b
        → FindsMore (λ n. n ≡ number) old (record old
        { numbers = cond b old.numbers (old.numbers ++ number ∷ []) })
    by true known = finds-none (λ n. n ≡ number) old
        (λ n is. subst (Contains old.numbers) (sym is) (has-contains old.numbers number known))
    by false unknown = record {
      limit = refl;
      all = λ n is. subst (Contains (old.numbers ++ number ∷ [])) (sym is) (Contains-push old.numbers number);
      fresh = λ n has. elim (Contains-push_cases old.numbers number n has)
          [ inl was ↦ inl was | inr now ↦ inr (sym now) ];
      added = number ∷ [];
      more = refl;
    }

-- the first numbers of a list, and one more
pub finds-next : (first old new : NumberSetModel) (numbers : List ℕ) (i : ℕ) → i < length numbers
    → FindsMore (Contains (take i numbers)) first old
    → new ≡ record old { numbers = with_number old.numbers (get_or numbers i 0) }
    → FindsMore (Contains (take (i + 1) numbers)) first new
finds-next first old new numbers i below a is =
    finds-then (Contains before) (λ m. m ≡ n) (Contains (take (i + 1) numbers)) first old new
    (λ m has. subst (λ ns. Contains ns m) (sym more) (Contains-append_left before (n ∷ []) m has))
    (λ m same. subst (λ ns. Contains ns m) (sym more)
    (subst (Contains (before ++ n ∷ [])) (sym same) (Contains-push before n)))
    (λ m has. elim (Contains-push_cases before n m (subst (λ ns. Contains ns m) more has))
    [ inl was ↦ inl was | inr same ↦ inr (sym same) ])
    a (subst (FindsMore (λ m. m ≡ n) old) (sym is) (finds-one old n))
  where
    before : List ℕ
    before = take i numbers

    n : ℕ
    n = get_or numbers i 0

    more : take (i + 1) numbers ≡ before ++ n ∷ []
    more = take_more numbers i 0 below

pub finds-all : (first found : NumberSetModel) (numbers : List ℕ) (i : ℕ) → length numbers ≤ i
    → FindsMore (Contains (take i numbers)) first found → FindsMore (Contains numbers) first found
finds-all first found numbers i past finds =
    subst (λ ns. FindsMore (Contains ns) first found) (take_all i numbers past) finds
