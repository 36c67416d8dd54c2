use Rattle.std.proofs.Common.{ℕ, ◌↔◌, ◌∙◌, sym, subst, map, List}
use Rattle.std.specs.Prelude.{Contains, Option, option_map}
use Rattle.nj_tests.specs.Tests.{test_model}
use Rattle.nj_chosen.specs.declared.brought.Way.TheVariants.{Later, Needed}
use Rattle.nj_chosen.specs.declared.reason.Reason.{Reason}
use Rattle.nj_chosen.specs.Choices.{HasReason}
use Rattle.nj_chosen.specs.Chosen.{IsBrought}
use Rattle.nj_chosen.specs.Inside.Tables.{kinds_in}
use Rattle.nj_chosen.specs.Reasons.{reason_by, why_of}
use Rattle.nj_chosen.proofs.ChoiceLemmas.{chosen-all}
use Rattle.nj_chosen.proofs.ReasonLemmas.{reasons-count}
use Rattle.nj_chosen.proofs.chosen_tests.chosen_by.Goals as goal

pub invariant_of-result : goal.invariant_of-result
invariant_of-result c =
    let count = reasons-count (reason_by (kinds_in c.args.tables.now) c.args.build.now c.args.skips_unnamed)
    c.args.tests.now c.in_ok-reasons.reasons.items c.in_ok-reasons.ensures in
    record {
      affected_limit = c.in_ok-affected.ensures.limit ∙ sym count;
      chosen_limit = c.in_ok-chosen.ensures.limit ∙ sym count;
    }

pub returns : goal.returns
returns c =
    let tests = map test_model c.args.tests.now in
    let first = c.in_ok-first.first.items in
    let affected = c.in_ok-affected.affected.numbers in
    let chosen = c.in_ok-chosen.chosen.numbers in
    let both = chosen-all tests (map (λ reason. option_map why_of reason) c.in_ok-reasons.reasons.items) first
    affected chosen
    (subst (λ (reasons : List (Option Reason)). (n : ℕ) → Contains first n
    ↔ HasReason (map (λ reason. option_map why_of reason) reasons) n) c.deref.ensures.value
    c.in_ok-first.ensures.numbers)
    (subst (λ (numbers : List ℕ). (n : ℕ) → Contains affected n ↔ IsBrought Later tests (Contains numbers) n)
    c.deref-2.ensures.value c.in_ok-affected.ensures.brought)
    (subst (λ (numbers : List ℕ). (n : ℕ) → Contains chosen n ↔ IsBrought Needed tests (Contains numbers) n)
    c.numbers.ensures.numbers c.in_ok-chosen.ensures.brought) in
    record { reasons = c.in_ok-reasons.ensures; affected = both.0; chosen = both.1 }
