-- Which tests are chosen, by their numbers.
use Rattle.std.proofs.Common.{◌≡◌, ◌<◌, ◌+◌, ◌↔◌, inl, inr, ℕ, Bool, true, false, List, [], ◌∷◌, ◌++◌}
use Rattle.std.proofs.Common.{map, length}
use Rattle.std.proofs.Common.{get_or, refl, sym, ap, ◌∙◌, subst, arith}
use Rattle.std.proofs.Common.{◌≤◌, cond, append-nil}
use Rattle.std.specs.Prelude.{Contains, Option, Some, None, is_some, option_map, Result, Ok, Err, IfOk}
use Rattle.std.specs.List.{All}
use Rattle.std.proofs.lemmas.Bool.{cases_lt}
use Rattle.std.proofs.lemmas.List.{get_or-map, get_or_past}
use Rattle.std.proofs.lemmas.List.Elements.{All-contains_itself, All-weaker, Contains-append_left}
use Rattle.std.proofs.lemmas.List.Elements.{Contains-push, Contains-push_cases}
use Rattle.nj_tests.specs.Tests.{TestModel}
use Rattle.nj_chosen.specs.declared.brought.Way.{Way}
use Rattle.nj_chosen.specs.declared.reason.Reason.{Reason}
use Rattle.nj_chosen.specs.Reasons.{Why, why_of}
use Rattle.nj_chosen.specs.declared.tables.ChangedPaths.{ChangedPaths}
use Rattle.nj_chosen.specs.declared.tables.PathTables.{PathTables}
use Rattle.nj_chosen.specs.Choices.{AreChosen, ChosenModel, HasReason}
use Rattle.nj_chosen.specs.Inside.Chosen.{AreChosenBy}
use Rattle.nj_chosen.specs.Inside.Tables.{kinds_in}
use Rattle.nj_chosen.specs.ChangedPaths.{change_by}
use Rattle.nj_chosen.specs.Reasons.{kinds_of, reason_by}
use Rattle.nj_chosen.specs.declared.brought.Way.TheVariants.{Later, Needed}
use Rattle.nj_chosen.specs.Chosen.{IsBrought, IsChosen, IsTestAffected}
use Rattle.nj_chosen.specs.Chosen.IsBrought.{by_itself, by_other}

-- the same first tests bring the same
pub brought-same : (way : Way) (tests : List TestModel) (P Q : ℕ → Type 0) → ((n : ℕ) → P n → Q n) → (n : ℕ)
    → IsBrought way tests P n → IsBrought way tests Q n
brought-same way tests P Q same _ (by_itself {number = n} is) = by_itself (same n is)
brought-same way tests P Q same _ (by_other {number = n} {other = o} {test = t} {caller = c} brought at_o at_n
    is) =
    by_other {test = t} {caller = c} (brought-same way tests P Q same o brought) at_o at_n is

-- ---- numbers of tests with a reason

-- the numbers below one of the tests with a reason
pub record Tells (reasons : List (Option Why)) (i : ℕ) (numbers : List ℕ) : Type 0 where
  pub within : (n : ℕ) → Contains numbers n → n < i
  pub has : (n : ℕ) → Contains numbers n → HasReason reasons n
  pub all : (n : ℕ) → n < i → HasReason reasons n → Contains numbers n

pub tells-none : (reasons : List (Option Why)) → Tells reasons 0 []
tells-none reasons = record {
  within = λ n has. absurd (omega (arith, has.1));
  has = λ n has. absurd (omega (arith, has.1));
  all = λ n below. absurd (omega (arith, below));
}

pub tells-next : (reasons : List (Option Why)) (i : ℕ) (b : Bool) (old new : List ℕ)
    → b ≡ is_some (get_or reasons i None) → new ≡ old ++ cond b (i ∷ []) [] → Tells reasons i old
    → Tells reasons (i + 1) new
tells-next reasons i true old new is same told = record {
  within = λ n has. elim (Contains-push_cases old i n (subst (λ ns. Contains ns n) same has)) [
    | inl was ↦ omega (arith, told.within n was)
    | inr now ↦ omega (arith, now)
  ];
  has = λ n has. elim (Contains-push_cases old i n (subst (λ ns. Contains ns n) same has)) [
    | inl was ↦ told.has n was
    | inr now ↦ subst (HasReason reasons) now (sym is)
  ];
  all = λ n below some. elim (cases_lt n i) [
    | inl before ↦ subst (λ ns. Contains ns n) (sym same)
        (Contains-append_left old (i ∷ []) n (told.all n before some))
    | inr past ↦
        let now : i ≡ n = omega (arith, below, past) in
        subst (λ ns. Contains ns n) (sym same) (subst (Contains (old ++ i ∷ [])) now (Contains-push old i))
  ];
}
tells-next reasons i false old new is same told = record {
  within = λ n has. omega (arith, told.within n (subst (λ ns. Contains ns n) (same ∙ append-nil old) has));
  has = λ n has. told.has n (subst (λ ns. Contains ns n) (same ∙ append-nil old) has);
  all = λ n below some. elim (cases_lt n i) [
    | inl before ↦ subst (λ ns. Contains ns n) (sym (same ∙ append-nil old)) (told.all n before some)
    | inr past ↦
        let now : n ≡ i = omega (arith, below, past) in
        let none : is_some (get_or reasons i None) ≡ true = subst (HasReason reasons) now some in
        absurd (cc)
  ];
}

-- whether the code has a reason
pub some-at : (reasons : List (Option Reason)) (i : ℕ) (reason : Option Reason) → i < length reasons
    → reason ≡ get_or reasons i reason
    → is_some reason ≡ is_some (get_or (map (λ r. option_map why_of r) reasons) i None)
some-at reasons i reason below at =
    by reason ∙ ap (λ r. is_some (option_map why_of r)) at
    ∙ ap is_some (sym (get_or-map (λ r. option_map why_of r) reasons i reason None below))
  where
    by : (r : Option Reason) → is_some r ≡ is_some (option_map why_of r)
    by None = refl
    by (Some r) = refl

-- a test with a reason is one of the tests
reason-below : (reasons : List (Option Why)) (n : ℕ) → HasReason reasons n → n < length reasons
reason-below reasons n has = elim (cases_lt n (length reasons)) [
  | inl below ↦ below
  | inr past ↦ let none : get_or reasons n None ≡ None = get_or_past reasons n None past in
      let not_so : is_some (get_or reasons n None) ≡ false = ap is_some none in
      absurd (cc)
]

pub tells-all : (reasons : List (Option Why)) (i : ℕ) (numbers : List ℕ) → length reasons ≤ i
    → Tells reasons i numbers → (n : ℕ) → Contains numbers n ↔ HasReason reasons n
tells-all reasons i numbers past told n = (
  told.has n,
  λ has. let below = reason-below reasons n has in told.all n (omega (arith, below, past)) has,
)

pub tells-below : (reasons : List (Option Why)) (i count : ℕ) (numbers : List ℕ) → i ≤ count
    → Tells reasons i numbers → All (λ n. n < count) numbers
tells-below reasons i count numbers le told =
    All-weaker (Contains numbers) (λ n. n < count) (λ n has. omega (arith, told.within n has, le)) numbers
    (All-contains_itself numbers)

-- ---- all of them

pub chosen-all : (tests : List TestModel) (reasons : List (Option Why)) (first affected chosen : List ℕ)
    → ((n : ℕ) → Contains first n ↔ HasReason reasons n)
    → ((n : ℕ) → Contains affected n ↔ IsBrought Later tests (Contains first) n)
    → ((n : ℕ) → Contains chosen n ↔ IsBrought Needed tests (Contains affected) n)
    → ((n : ℕ) → Contains affected n ↔ IsTestAffected tests (HasReason reasons) n)
    × ((n : ℕ) → Contains chosen n ↔ IsChosen tests (HasReason reasons) n)
chosen-all tests reasons first affected chosen firsts affects chooses = (
  λ n. (to n, from n),
  λ n. (
    λ has. brought-same Needed tests (Contains affected) (IsTestAffected tests (HasReason reasons)) to n
        ((chooses n).0 has),
    λ is. (chooses n).1 (brought-same Needed tests (IsTestAffected tests (HasReason reasons))
        (Contains affected)
        from n is),
  ),
)
  where
    to : (n : ℕ) → Contains affected n → IsTestAffected tests (HasReason reasons) n
    to n has = brought-same Later tests (Contains first) (HasReason reasons) (λ m. (firsts m).0) n
        ((affects n).0 has)

    from : (n : ℕ) → IsTestAffected tests (HasReason reasons) n → Contains affected n
    from n is = (affects n).1 (brought-same Later tests (HasReason reasons) (Contains first)
        (λ m. (firsts m).1) n is)

-- by the tables of a change
pub chosen-in : {E : Type 0} (build : List ℕ) (paths : ChangedPaths) (skips : Bool) (tests : List TestModel)
    (tables : PathTables) (result : Result ChosenModel E)
    → kinds_in tables ≡ kinds_of (change_by build paths) tests
    → IfOk result (AreChosenBy (kinds_in tables) build skips tests)
    → IfOk result (AreChosen (change_by build paths) skips tests)
chosen-in build paths skips tests tables (Ok m) same are = record {
  reasons = are.reasons ∙ ap (λ kinds. map (reason_by kinds build skips) tests) same;
  affected = are.affected;
  chosen = are.chosen;
}
chosen-in build paths skips tests tables (Err e) same are = are
