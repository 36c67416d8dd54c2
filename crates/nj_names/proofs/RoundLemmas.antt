-- Lemmas on sets of numbers that are emptied at once.
use Rattle.std.proofs.Common.{◌≡◌, ◌≢◌, ◌<◌, ◌≤◌, ◌+◌, ◌==◌, ◌||◌, ◌⊎◌, inl, inr, ℕ, Bool, true, false, cond}
use Rattle.std.proofs.Common.{List, [], ◌∷◌, ◌++◌, length, get_or, set, nat_eq, refl, sym, ap, subst, ◌∙◌}
use Rattle.std.proofs.Common.{arith}
use Rattle.std.specs.Prelude.{sum_by}
use Rattle.std.specs.List.{All, AllByRecursion, IsDistinct}
use Rattle.std.proofs.lemmas.Bool.Decides.{Decides-eqb, eqb_tells}
use Rattle.std.proofs.lemmas.List.{get_or_default, get_or-set_other, get_or-set_same, length_push, length-set}
use Rattle.std.proofs.lemmas.List.Elements.{All-push, recursion_from_All}
use Rattle.std.proofs.lemmas.Cmp.{nat_eq_equiv}
use Rattle.std.proofs.lemmas.List.Sums.{sum_by-cons, sum_by-set}
use Rattle.std.proofs.lemmas.Map.Keys.{IsDistinct-push}
use Rattle.nj_names.specs.NumberSets.{has}
use Rattle.nj_names.proofs.NumberLemmas.{has-push}
use Rattle.nj_names.specs.Inside.RoundsHeld.{AreMarked, unmarked}

or-true : (b : Bool) → (b || true) ≡ true
or-true b = grind arith

or-false : (b : Bool) → (b || false) ≡ b
or-false b = grind arith

same-eqb : (n m : ℕ) → n ≡ m → nat_eq n m ≡ true
same-eqb n m is = (Decides-eqb n m).1 is

pub apart-eqb : (n m : ℕ) → n ≢ m → nat_eq n m ≡ false
apart-eqb n m apart = elim (eqb_tells n m) [ inl same ↦ absurd (apart same.1) | inr differ ↦ differ.0 ]

abbrev count : Bool → ℕ
count b = cond b 0 1

counted : (b c : Bool) → b ≡ c → count b ≡ count c
counted b c same = ap count same

-- ---- one more number

module _ (marks : List ℕ) (round : ℕ) (numbers : List ℕ) (number : ℕ) (below : number < length marks)
    (held : AreMarked marks round numbers) (unset : nat_eq (get_or marks number 0) round ≡ false) where
  tells : (n : ℕ) → n < length (set marks number round)
      → nat_eq (get_or (set marks number round) n 0) round ≡ has (numbers ++ number ∷ []) n
  tells n within = by (eqb_tells n number)
    where
      by : ((n == number) ≡ true × (n ≡ number)) ⊎ ((n == number) ≡ false × (n ≢ number))
          → nat_eq (get_or (set marks number round) n 0) round ≡ has (numbers ++ number ∷ []) n
      by (inl same) =
          same-eqb (get_or (set marks number round) n 0) round
          (ap (λ k. get_or (set marks number round) k 0) same.1
          ∙ get_or-set_same marks number round 0 below)
          ∙ sym (has-push numbers number n ∙ ap (λ b. has numbers n || b) same.0 ∙ or-true (has numbers n))
      by (inr apart) =
          ap (λ m. nat_eq m round) (get_or-set_other marks number n round 0 apart.1)
          ∙ held.tell n (omega (arith, within, length-set marks number round))
          ∙ sym (has-push numbers number n ∙ ap (λ b. has numbers n || b) apart.0 ∙ or-false (has numbers n))

  not-later : (n : ℕ) → n < length (set marks number round) → get_or (set marks number round) n 0 ≤ round
  not-later n within = by (eqb_tells n number)
    where
      by : ((n == number) ≡ true × (n ≡ number)) ⊎ ((n == number) ≡ false × (n ≢ number))
          → get_or (set marks number round) n 0 ≤ round
      by (inl same) = omega (
        arith,
        ap (λ k. get_or (set marks number round) k 0) same.1,
        get_or-set_same marks number round 0 below,
      )
      by (inr apart) = omega (
        arith,
        get_or-set_other marks number n round 0 apart.1,
        held.earlier n (omega (arith, within, length-set marks number round)),
      )

  pub marked-push : AreMarked (set marks number round) round (numbers ++ number ∷ [])
  marked-push = record {
    tell = tells;
    below = subst (λ (count : ℕ). All (λ n. n < count) (numbers ++ number ∷ []))
        (sym (length-set marks number round))
        (All-push (λ n. n < length marks) numbers number held.below below);
    distinct = IsDistinct-push nat_eq_equiv numbers number held.distinct
        (sym (held.tell number below) ∙ unset);
    earlier = not-later;
    as_many = omega (
      arith,
      held.as_many,
      length_push numbers number,
      length-set marks number round,
      sum_by-set (unmarked round) marks number round 0 below,
      counted (nat_eq (get_or marks number 0) round) false unset,
      counted (nat_eq round round) true (same-eqb round round refl),
    );
  }

-- ---- no numbers

all-unmarked : (round : ℕ) (marks : List ℕ) → AllByRecursion (λ mark. mark < round) marks
    → sum_by (unmarked round) marks ≡ length marks
all-unmarked round [] none = refl
all-unmarked round (mark ∷ marks) none = grind (
  arith,
  counted (nat_eq mark round) false (apart-eqb mark round (λ is. omega (arith, none.0, is))),
  nat_eq mark round,
  apart-eqb mark round (λ is. omega (arith, none.0, is)),
  length (mark ∷ marks),
  all-unmarked round marks none.1,
  sum_by-cons (unmarked round) mark marks,
)

pub marked-none : (round : ℕ) (marks : List ℕ) → All (λ mark. mark < round) marks → AreMarked marks round []
unfolding IsDistinct
marked-none round marks before = grind (arith, apart-eqb, get_or, length, all-unmarked, recursion_from_All)

-- the next round
pub marked-next : (round : ℕ) (marks numbers : List ℕ) → AreMarked marks round numbers
    → AreMarked marks (round + 1) []
marked-next round marks numbers held = marked-none (round + 1) marks
    (λ n d within. omega (arith, held.earlier n within, get_or_default marks n d 0 within))
