-- Why each test of a list is chosen.
use Rattle.std.specs.Prelude.{◌≡◌, ◌↔◌, ℕ, Bool, true, if◌then◌else◌, Option, Some, None, is_some, List, map, slice_index_or, Contains}
use Rattle.nj_names.specs.NumberSets.{has}
use Rattle.nj_tests.specs.Tests.{TestModel}
use Rattle.nj_chosen.specs.declared.chosen_tests.Choice.{Choice}
use Rattle.nj_chosen.specs.declared.chosen_tests.Choice.TheVariants as given
use Rattle.nj_chosen.specs.Reasons.{BuildChange, Why, reason_of, why_of}
use Rattle.nj_chosen.specs.Chosen.{IsChosen, IsTestAffected}

-- a test has a reason of its own
abbrev pub HasReason : (reasons : List (Option Why)) → (number : ℕ) → Type 0
HasReason reasons number = is_some (slice_index_or reasons number None) ≡ true

-- the chosen tests of a list: the reason of each test, the numbers of the affected tests, and those of the chosen tests
pub record ChosenModel : Type 0 where
  pub reasons : List (Option Why)
  pub affected : List ℕ
  pub chosen : List ℕ

-- why a test is chosen: for a reason of its own, because it follows an affected test, or because a chosen test needs it
pub data WhyChosen : Type 0 where
  Own : (why : Why) → WhyChosen
  Follows : WhyChosen
  Needed : WhyChosen

-- the value of the code
abbrev pub choice_model : Choice → WhyChosen
choice_model (given.Own reason) = Own (why_of reason.now)
choice_model given.Follows = Follows
choice_model given.Needed = Needed

-- why a test is chosen, by its reason, and by whether it is affected and chosen
abbrev pub why_by : (reason : Option Why) → (is_affected is_chosen : Bool) → Option WhyChosen
why_by (Some why) is_affected is_chosen = Some (Own why)
why_by None is_affected is_chosen = if is_affected then Some Follows else if is_chosen then Some Needed else None

-- why the test with the given number is chosen
abbrev pub why_chosen : ChosenModel → (number : ℕ) → Option WhyChosen
why_chosen m number = why_by (slice_index_or m.reasons number None) (has m.affected number) (has m.chosen number)

-- The chosen tests of a list in a change.
pub record AreChosen (c : BuildChange) (skips_unnamed : Bool) (tests : List TestModel) (m : ChosenModel) : Type 0 where
  pub reasons : m.reasons ≡ map (reason_of c tests skips_unnamed) tests
  pub affected : (number : ℕ) → Contains m.affected number ↔ IsTestAffected tests (HasReason m.reasons) number
  pub chosen : (number : ℕ) → Contains m.chosen number ↔ IsChosen tests (HasReason m.reasons) number
