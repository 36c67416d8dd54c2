-- The chosen tests of a list, as the code has them.
use Rattle.std.specs.Prelude.{◌≡◌, ◌↔◌, ℕ, Bool, List, map, Contains}
use Rattle.nj_names.specs.NumberSets.{NumberSetModel}
use Rattle.nj_tests.specs.Tests.{TestModel}
use Rattle.nj_chosen.specs.Reasons.{PathKinds, reason_by}
use Rattle.nj_chosen.specs.Chosen.{IsChosen, IsTestAffected}
use Rattle.nj_chosen.specs.Choices.{ChosenModel, HasReason}

-- sets of the numbers of `count` tests
pub record AreOfAll (count : ℕ) (affected chosen : NumberSetModel) : Type 0 where
  pub affected_limit : affected.limit ≡ count
  pub chosen_limit : chosen.limit ≡ count

-- the chosen tests of a list, by the kinds of paths
pub record AreChosenBy (kinds : PathKinds) (build : List ℕ) (skips_unnamed : Bool) (tests : List TestModel) (m : ChosenModel) :
    Type 0 where
  pub reasons : m.reasons ≡ map (reason_by kinds build skips_unnamed) tests
  pub affected : (number : ℕ) → Contains m.affected number ↔ IsTestAffected tests (HasReason m.reasons) number
  pub chosen : (number : ℕ) → Contains m.chosen number ↔ IsChosen tests (HasReason m.reasons) number
