-- A line of a block that was taken at once.
use Rattle.std.proofs.Common.{arith, ◌≡◌, ℕ, true, false, List, Ok, Err, refl}
use Rattle.nj_text.specs.declared.spot.Spot.{Spot}
use Rattle.nj_text.specs.Words.{WordModel}
use Rattle.nj_text.specs.Calls.{State, TakesBinding}
use Rattle.nj_manifest.specs.declared.cause.SyntaxCause.TheVariants as cause
use Rattle.nj_manifest.specs.declared.block_lines.Keys.{Keys}
use Rattle.nj_manifest.specs.Faults.{Placed}
use Rattle.nj_manifest.specs.LineSteps.{name_next, expect_sign}
use Rattle.nj_manifest.specs.Statements.{allows, equals_value, line_next}

pub line-taken : (allowed : Keys) (before after : State) (spot : Spot) (name : List ℕ) (value : WordModel)
    → TakesBinding before after spot name value → allows allowed name ≡ true
    → line_next allowed before ≡ Ok (record { spot = spot; name = name; value = value }, after)
unfolding line_next name_next equals_value expect_sign
line-taken allowed before after spot name value b t = grind arith

pub key-unknown : (allowed : Keys) (before after : State) (spot : Spot) (name : List ℕ) (value : WordModel)
    → TakesBinding before after spot name value → allows allowed name ≡ false
    → line_next allowed before ≡ Err (Placed spot (cause.UnknownKey name))
unfolding line_next name_next equals_value expect_sign
key-unknown allowed before after spot name value b t = rw (b.name_taken, b.place, t) refl
