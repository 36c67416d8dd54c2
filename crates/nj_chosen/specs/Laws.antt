-- Laws of chosen tests.
use Rattle.std.specs.Prelude.{◌≡◌, ◌⊎◌, ℕ, Bool, true, false, None, List, ◌∷◌, ◌++◌, Contains, Some, slice_get}
use Rattle.nj_names.specs.NameTables.{is_among}
use Rattle.nj_tests.specs.Tests.{TestModel}
use Rattle.nj_chosen.specs.declared.brought.Way.{Way}
use Rattle.nj_chosen.specs.declared.brought.Way.TheVariants.{Later, Needed}
use Rattle.nj_chosen.specs.TestPaths.{names_of_test}
use Rattle.nj_chosen.specs.Reasons.{BuildChange, counted, has_below, reason_of}
use Rattle.nj_chosen.specs.Chosen.{IsChosen, brings}

-- ---- reasons

-- a path has nothing to do with a change, for the tests of a list
pub record IsUnlinked (c : BuildChange) (tests : List TestModel) (path : List ℕ) : Type 0 where
  pub no_affected_output : is_among c.affected path ≡ false
  pub no_changed_file : is_among c.changed path ≡ false
  pub no_directory : has_below c.roots (counted c tests) path ≡ false
  pub needs_none : is_among c.needing path ≡ false

-- If a test has no reason, none of its words names a path that has to do with the change.
abbrev pub OthersNameNothing : Type 0
OthersNameNothing = (c : BuildChange) (tests : List TestModel) (skips_unnamed : Bool) (test : TestModel) (path : List ℕ)
    → reason_of c tests skips_unnamed test ≡ None → Contains (names_of_test c.build test) path → IsUnlinked c tests path

-- what is noticed is affected or changed
abbrev pub NoticesTheChange : BuildChange → Type 0
NoticesTheChange c = (path : List ℕ) → is_among c.noticed path ≡ true
    → (is_among c.affected path ≡ true) ⊎ (is_among c.changed path ≡ true)

-- For a test it makes no difference whether its own program counts in a directory: its reason is the same if only the programs of the
-- other tests of the list do not count.
abbrev pub OwnProgramsChooseAnyway : Type 0
OwnProgramsChooseAnyway = (c : BuildChange) (before after : List TestModel) (skips_unnamed : Bool) (test : TestModel)
    → NoticesTheChange c
    → reason_of c (before ++ test ∷ after) skips_unnamed test ≡ reason_of c (before ++ after) skips_unnamed test

-- ---- fixtures and order

-- a set has, with each test, the tests that it brings
abbrev pub IsClosed : Way → List TestModel → (is_one : ℕ → Bool) → Type 0
IsClosed way tests is_one = (number other : ℕ) (test caller : TestModel) → is_one other ≡ true
    → slice_get tests other ≡ Some caller → slice_get tests number ≡ Some test → brings way caller test ≡ true
    → is_one number ≡ true

-- The affected and the chosen tests are the smallest sets that have all tests with a reason and, with each test, the tests that it brings.
abbrev pub ChosenAreLeast : Type 0
ChosenAreLeast = (tests : List TestModel) (has_reason affected chosen : ℕ → Bool)
    → ((n : ℕ) → has_reason n ≡ true → affected n ≡ true) → IsClosed Later tests affected
    → ((n : ℕ) → affected n ≡ true → chosen n ≡ true) → IsClosed Needed tests chosen
    → (n : ℕ) → IsChosen tests (λ m. has_reason m ≡ true) n → chosen n ≡ true
