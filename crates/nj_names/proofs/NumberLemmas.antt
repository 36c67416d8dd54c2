-- Lemmas on sets of numbers.
use Rattle.std.proofs.lemmas.Grind.{common_steps}
use Rattle.std.proofs.Common.{◌≡◌, ◌≢◌, ◌<◌, ◌≤◌, ◌==◌, ◌||◌, ◌⊎◌, inl, inr, ℕ, Bool, true, false, List}
use Rattle.std.proofs.Common.{[], ◌∷◌, ◌++◌, length, get_or, set, nat_eq, refl, sym, ap, subst, ◌∙◌, arith}
use Rattle.std.specs.Prelude.{Contains, sum_by}
use Rattle.std.specs.List.{All, AllByRecursion, IsDistinct}
use Rattle.std.proofs.lemmas.Bool.Decides.{Decides-eqb, eqb_tells}
use Rattle.std.proofs.lemmas.Cmp.{nat_eq_equiv}
use Rattle.std.proofs.lemmas.List.{get_or-set_other, get_or-set_same, length_push, length-set}
use Rattle.std.proofs.lemmas.List.Elements.{All-push, recursion_from_All}
use Rattle.std.proofs.lemmas.List.Sums.{sum_by-cons, sum_by-set}
use Rattle.std.proofs.lemmas.Map.Keys.{IsDistinct-push}
use Rattle.std.proofs.lemmas.Map.Views.{Contains-from_any, list_any-from_Contains}
use Rattle.nj_names.specs.NumberSets.{has}
use Rattle.nj_names.specs.Inside.NumbersHeld.{AreFlagged, unflagged}

or-true : (b : Bool) → (b || true) ≡ true
or-true b = grind arith

or-false : (b : Bool) → (b || false) ≡ b
or-false b = grind arith

-- ---- members of a list

pub has-contains : (numbers : List ℕ) (n : ℕ) → has numbers n ≡ true → Contains numbers n
has-contains numbers n is = Contains-from_any (λ x y same. (Decides-eqb x y).0 same) n numbers is

pub contains-has : (numbers : List ℕ) (n : ℕ) → Contains numbers n → has numbers n ≡ true
contains-has numbers n is = list_any-from_Contains nat_eq_equiv n numbers is

-- ---- one more number

pub has-push : (numbers : List ℕ) (number n : ℕ)
    → has (numbers ++ number ∷ []) n ≡ (has numbers n || nat_eq n number)
has-push numbers number n = grind (arith, common_steps)

module _ (flags : List Bool) (numbers : List ℕ) (number : ℕ) (below : number < length flags)
    (held : AreFlagged flags numbers) (unset : get_or flags number false ≡ false) where
  pub new-number : has numbers number ≡ false
  new-number = sym (held.tell number) ∙ unset

  tells : (n : ℕ) → get_or (set flags number true) n false ≡ has (numbers ++ number ∷ []) n
  tells n = by (eqb_tells n number)
    where
      by : ((n == number) ≡ true × (n ≡ number)) ⊎ ((n == number) ≡ false × (n ≢ number))
          → get_or (set flags number true) n false ≡ has (numbers ++ number ∷ []) n
      by (inl same) =
          ap (λ k. get_or (set flags number true) k false) same.1
          ∙ get_or-set_same flags number true false below
          ∙ sym (has-push numbers number n ∙ ap (λ b. has numbers n || b) same.0 ∙ or-true (has numbers n))
      by (inr apart) =
          get_or-set_other flags number n true false apart.1 ∙ held.tell n
          ∙ sym (has-push numbers number n ∙ ap (λ b. has numbers n || b) apart.0 ∙ or-false (has numbers n))

  pub flagged-push : AreFlagged (set flags number true) (numbers ++ number ∷ [])
  flagged-push = record {
    tell = tells;
    below = subst (λ (count : ℕ). All (λ n. n < count) (numbers ++ number ∷ []))
        (sym (length-set flags number true))
        (All-push (λ n. n < length flags) numbers number held.below below);
    distinct = IsDistinct-push nat_eq_equiv numbers number held.distinct new-number;
    as_many = omega (
      arith,
      held.as_many,
      length_push numbers number,
      length-set flags number true,
      sum_by-set unflagged flags number true false below,
      ap unflagged unset,
    );
  }

-- ---- no numbers

all-unflagged : (flags : List Bool) → AllByRecursion (λ flag. flag ≡ false) flags
    → sum_by unflagged flags ≡ length flags
all-unflagged [] none = refl
all-unflagged (flag ∷ flags) none = grind (
  arith,
  length (flag ∷ flags),
  all-unflagged flags none.1,
  sum_by-cons unflagged flag flags,
)

no-flag : (flags : List Bool) → All (λ flag. flag ≡ false) flags → (n : ℕ) → get_or flags n false ≡ false
no-flag flags none n = grind (arith, common_steps)

pub flagged-none : (flags : List Bool) → All (λ flag. flag ≡ false) flags → AreFlagged flags []
unfolding IsDistinct
flagged-none flags none = grind (arith, no-flag, length, all-unflagged, recursion_from_All)

-- there are at most as many numbers as flags
pub flagged-fit : (flags : List Bool) (numbers : List ℕ) → AreFlagged flags numbers
    → length numbers ≤ length flags
flagged-fit flags numbers held = omega (arith, held.as_many)
