-- Which tests are chosen: tests with a reason of their own, and tests that fixtures and `DEPENDS` bring with them.
use Rattle.std.specs.Prelude.{◌≡◌, ℕ, Bool, true, ◌||◌, List, [], ◌∷◌, ◌++◌, slice_get, Some}
use Rattle.std.specs.List.{list_any}
use Rattle.nj_names.specs.NameTables.{is_among}
use Rattle.nj_tests.specs.Tests.{TestModel}
use Rattle.nj_chosen.specs.declared.brought.Way.{Way}
use Rattle.nj_chosen.specs.declared.brought.Way.TheVariants.{Later, Needed}

-- ---- how a test brings others

-- A test calls others by fixtures and by names of tests, and the called tests answer. `Later`: it calls by the fixtures that it sets up and
-- by its name; the tests that require one of the fixtures, or come after a test with the given name, answer. `Needed`: it calls by the
-- fixtures that it requires and the tests that it comes after; the tests that set up or clean up one of the fixtures, or have one of the
-- names, answer.

-- the fixtures by which a test calls
abbrev pub called_fixtures : Way → TestModel → List (List ℕ)
called_fixtures Later test = test.set_up_fixtures
called_fixtures Needed test = test.required_fixtures

-- the names of tests by which a test calls
abbrev pub called_tests : Way → TestModel → List (List ℕ)
called_tests Later test = test.name ∷ []
called_tests Needed test = test.predecessors

-- the fixtures to which a test answers
abbrev pub answered_fixtures : Way → TestModel → List (List ℕ)
answered_fixtures Later test = test.required_fixtures
answered_fixtures Needed test = test.set_up_fixtures ++ test.cleaned_fixtures

-- the names to which a test answers
abbrev pub answered_tests : Way → TestModel → List (List ℕ)
answered_tests Later test = test.predecessors
answered_tests Needed test = test.name ∷ []

-- a test brings another
abbrev pub brings : Way → (test other : TestModel) → Bool
brings way test other =
    list_any (is_among (answered_fixtures way other)) (called_fixtures way test)
    || list_any (is_among (answered_tests way other)) (called_tests way test)

-- ---- all that they bring

-- The first tests, the tests that they bring, and so on.
pub data IsBrought (way : Way) (tests : List TestModel) (IsFirst : ℕ → Type 0) : (number : ℕ) → Type 0 where
  by_itself : {number : ℕ} → IsFirst number → IsBrought way tests IsFirst number
  by_other : {number other : ℕ} {test caller : TestModel} → IsBrought way tests IsFirst other
      → slice_get tests other ≡ Some caller → slice_get tests number ≡ Some test → brings way caller test ≡ true
      → IsBrought way tests IsFirst number

-- A test is affected if it has a reason of its own, requires a fixture that an affected test sets up, or comes after an affected test.
abbrev pub IsTestAffected : List TestModel → (HasReason : ℕ → Type 0) → (number : ℕ) → Type 0
IsTestAffected tests HasReason = IsBrought Later tests HasReason

-- A test is chosen if it is affected, or if a chosen test needs it to run as in a run of all tests.
abbrev pub IsChosen : List TestModel → (HasReason : ℕ → Type 0) → (number : ℕ) → Type 0
IsChosen tests HasReason = IsBrought Needed tests (IsTestAffected tests HasReason)
