-- How the tests that others bring are found.
use Rattle.std.specs.Prelude.{◌≡◌, ◌⊎◌, ◌↔◌, ℕ, ◌<◌, ◌≤◌, Bool, true, None, List, [], ◌++◌, length, map, slice_index, slice_index_or, Contains}
use Rattle.std.specs.List.{list_any}
use Rattle.nj_names.specs.NameTables.{is_among}
use Rattle.nj_names.specs.NumberSets.{NumberSetModel}
use Rattle.nj_tests.specs.Tests.{TestModel}
use Rattle.nj_chosen.specs.Chosen.{IsBrought, answered_fixtures, answered_tests, called_fixtures, called_tests}
use Rattle.nj_chosen.specs.Inside.Numbers.{NumbersModel, HasNumber}
use Rattle.nj_chosen.specs.declared.brought.Way.{Way}
use Rattle.nj_chosen.specs.declared.brought.Answers.{Answers}

-- besides the numbers found before, exactly the numbers with P were found, after them
pub record FindsMore (P : ℕ → Type 0) (old new : NumberSetModel) : Type 0 where
  pub limit : new.limit ≡ old.limit
  pub all : (n : ℕ) → P n → Contains new.numbers n
  pub fresh : (n : ℕ) → Contains new.numbers n → Contains old.numbers n ⊎ P n
  pub added : List ℕ
  pub more : new.numbers ≡ old.numbers ++ added

-- a test answers to a name, given the names to which each test answers
abbrev pub answers : (rows : List (List (List ℕ))) → (name : List ℕ) → (number : ℕ) → Bool
answers rows name number = is_among (slice_index_or rows number []) name

-- a test answers to one of the given names
abbrev pub AnswersOne : (rows : List (List (List ℕ))) → (names : List (List ℕ)) → (number : ℕ) → Type 0
AnswersOne rows names number = list_any (λ name. answers rows name number) names ≡ true

-- the numbers under each name are of tests that answer to it; any other test that answers to it was found
pub record AreAnswers (rows : List (List (List ℕ))) (numbers : NumbersModel) (found : List ℕ) : Type 0 where
  pub answer : (name : List ℕ) (n : ℕ) → HasNumber numbers name n → answers rows name n ≡ true
  pub left : (name : List ℕ) (n : ℕ) → answers rows name n ≡ true → HasNumber numbers name n ⊎ Contains found n

-- the fixtures, and then the names, to which each of the given tests answers
abbrev pub fixture_rows : Way → List TestModel → List (List (List ℕ))
fixture_rows way tests = map (answered_fixtures way) tests

abbrev pub test_rows : Way → List TestModel → List (List (List ℕ))
test_rows way tests = map (answered_tests way) tests

-- the answers by fixtures and those by names
pub record AreAllAnswers (way : Way) (tests : List TestModel) (answers : Answers) (found : List ℕ) : Type 0 where
  pub by_fixtures : AreAnswers (fixture_rows way tests) answers.fixtures found
  pub by_names : AreAnswers (test_rows way tests) answers.tests found

-- a test brings the test with the given number
abbrev pub Brings : Way → List TestModel → (caller : TestModel) → (number : ℕ) → Type 0
Brings way tests caller number = AnswersOne (fixture_rows way tests) (called_fixtures way caller) number
    ⊎ AnswersOne (test_rows way tests) (called_tests way caller) number

-- the test with the given number
abbrev pub test_at : List TestModel → (number : ℕ) → TestModel
test_at tests number = slice_index_or tests number (record {
  name = [];
  command = None;
  texts = [];
  folder = None;
  required_fixtures = [];
  set_up_fixtures = [];
  cleaned_fixtures = [];
  predecessors = [];
})

-- between two turns: the tests found are brought; they include the first tests, and what each test before a place in the list brings
pub record FindsBrought (way : Way) (tests : List TestModel) (IsFirst : ℕ → Type 0) (answers : Answers) (found : NumberSetModel)
    (place : ℕ) : Type 0 where
  pub limit : found.limit ≡ length tests
  pub within : place ≤ length found.numbers
  pub below : (n : ℕ) → Contains found.numbers n → n < length tests
  pub answers_are : AreAllAnswers way tests answers found.numbers
  pub sound : (n : ℕ) → Contains found.numbers n → IsBrought way tests IsFirst n
  pub begun : (n : ℕ) → IsFirst n → Contains found.numbers n
  pub closed : (i n : ℕ) → i < place → Brings way tests (test_at tests (slice_index found.numbers i)) n
      → Contains found.numbers n

-- the numbers under each name are those of the tests that answer to it
abbrev pub HasAll : (rows : List (List (List ℕ))) → NumbersModel → Type 0
HasAll rows numbers = (name : List ℕ) (n : ℕ) → HasNumber numbers name n ↔ (answers rows name n ≡ true)
