-- Lemmas for the laws of chosen tests.
use Rattle.std.proofs.Common.{◌≡◌, inl, inr, ℕ, Bool, true, false, cond, List, [], ◌∷◌, refl}
use Rattle.std.proofs.Common.{subst}
use Rattle.std.proofs.Common.{Option, Some, None, arith}
use Rattle.std.specs.Prelude.{Contains}
use Rattle.std.specs.Option.{option_or}
use Rattle.nj_names.specs.NameTables.{is_among}
use Rattle.nj_tests.proofs.WordLemmas.{in-cons}
use Rattle.nj_chosen.specs.declared.reason.Link.{Link}
use Rattle.nj_chosen.specs.declared.reason.Link.TheVariants.{AffectedOutput, ChangedFile, Directory}
use Rattle.nj_chosen.specs.declared.reason.Link.TheVariants.{NeedsAffected}
use Rattle.nj_chosen.specs.TestPaths.{names_of_test}
use Rattle.nj_chosen.specs.Reasons.{PathKinds, counted, first_named, has_below, kinds_of, link_of}
use Rattle.nj_chosen.specs.Reasons.{named}
use Rattle.nj_chosen.specs.Chosen.{IsChosen, IsTestAffected}
use Rattle.nj_chosen.specs.Chosen.IsBrought.{by_itself, by_other}
use Rattle.nj_chosen.specs.Laws.{ChosenAreLeast, OthersNameNothing}

-- ---- reasons

none-first : {A : Type 0} (o p : Option A) → option_or o p ≡ None → (o ≡ None) × (p ≡ None)
none-first None p none = (refl, none)
none-first (Some x) p none = absurd (cc)

no-link : (path : List ℕ) (o : Option Link) → named path o ≡ None → o ≡ None
no-link path None none = refl
no-link path (Some link) none = absurd (cc)

none-named : (kinds : PathKinds) (paths : List (List ℕ)) (path : List ℕ) → first_named kinds paths ≡ None
    → Contains paths path → link_of kinds path ≡ None
none-named kinds [] path none has = absurd (omega (arith, has.1))
none-named kinds (p ∷ paths) path none has =
    let both = none-first (named p (link_of kinds p)) (first_named kinds paths) none in
    elim (in-cons p paths path has) [
      | inl same ↦ subst (λ q. link_of kinds q ≡ None) same (no-link p (link_of kinds p) both.0)
      | inr later ↦ none-named kinds paths path both.1 later
    ]

-- a chain of tests that ends in `None` passed none of them
chain : (a b c d : Bool) → cond a (Some AffectedOutput) (cond b (Some ChangedFile)
    (cond c (Some Directory) (cond d (Some NeedsAffected) None))) ≡ None
    → (a ≡ false) × (b ≡ false) × (c ≡ false) × (d ≡ false)
chain true b c d none = absurd (cc)
chain false true c d none = absurd (cc)
chain false false true d none = absurd (cc)
chain false false false true none = absurd (cc)
chain false false false false none = (refl, refl, refl, refl)

pub others-name-nothing : OthersNameNothing
others-name-nothing c tests skips test path none has =
    let kinds = kinds_of c tests in
    let first = none-first (first_named kinds (names_of_test c.build test)) _ none in
    let no = none-named kinds (names_of_test c.build test) path first.0 has in
    let all = chain (is_among c.affected path) (is_among c.changed path)
    (has_below c.roots (counted c tests) path) (is_among c.needing path) no in
    record { no_affected_output = all.0; no_changed_file = all.1; no_directory = all.2; needs_none = all.3 }

-- ---- fixtures and order

pub chosen-are-least : ChosenAreLeast
chosen-are-least tests has_reason affected chosen reasons closed more closed_too n is = by n is
  where
    first : (m : ℕ) → IsTestAffected tests (λ k. has_reason k ≡ true) m → affected m ≡ true
    first _ (by_itself {number = m} has) = reasons m has
    first _ (by_other {number = m} {other = o} {test = test} {caller = caller} brought at_o at_m is) =
        closed m o test caller (first o brought) at_o at_m is

    by : (m : ℕ) → IsChosen tests (λ k. has_reason k ≡ true) m → chosen m ≡ true
    by _ (by_itself {number = m} has) = more m (first m has)
    by _ (by_other {number = m} {other = o} {test = test} {caller = caller} brought at_o at_m is) =
        closed_too m o test caller (by o brought) at_o at_m is
