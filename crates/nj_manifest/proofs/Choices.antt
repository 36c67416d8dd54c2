-- Short names for the choices of the steps, each with its cases.
use Rattle.std.proofs.Common.{arith, ◌≡◌, ℕ, suc, Bool, cond, Option, None, Result, Ok, Err, List, [], ◌∷◌}
use Rattle.std.proofs.Common.{length}
use Rattle.std.specs.Prelude.{ok_or}
use Rattle.std.specs.Option.{option_map_or}
use Rattle.nj_text.specs.declared.spot.Spot.{Spot}
use Rattle.nj_text.specs.Lines.{Line}
use Rattle.nj_text.specs.Words.{WordModel}
use Rattle.nj_text.specs.Calls.{State, Between, Inside, Failed, spot_of}
use Rattle.nj_manifest.specs.declared.cause.SyntaxCause.TheVariants as cause
use Rattle.nj_manifest.specs.declared.cause.Wanted.{Wanted}
use Rattle.nj_manifest.specs.declared.cause.Wanted.TheVariants as wanted
use Rattle.nj_manifest.specs.Faults.{Fault, Placed}
use Rattle.nj_manifest.specs.LineSteps.{Step, ◌>>=◌, NameModel, words_within, words_next}
use Rattle.nj_manifest.specs.Openings.{Parse}
use Rattle.nj_manifest.specs.Statements.{LineModel}

-- ---- along a line

abbrev pub named : Wanted → Spot → Option (List ℕ) → State → Step NameModel
named wanted spot found after = ok_or found (Placed spot (cause.Expected wanted)) >>=
    λ name. Ok (record { spot = spot; name = name }, after)

abbrev pub if_there : Wanted → Bool → State → Result State Fault
if_there wanted there after = cond there (Ok after) (Err (Placed (spot_of after) (cause.Expected wanted)))

-- a word before the words that follow it; `None` ends them
abbrev pub words_from : Option WordModel → State → Step (List WordModel) → Step (List WordModel)
words_from word after others = option_map_or (λ first. others >>= λ more. Ok (first ∷ more.0, more.1)) word
    (Ok ([], after))

-- Each word has a unit at least.
abbrev pub units_left : State → ℕ
units_left (Between ls) = 0
units_left (Inside l ls) = length l.units
units_left (Failed f) = 0

pub words_next-is : (s : State) → words_next s ≡ words_within (suc (units_left s)) s
unfolding words_next
words_next-is s = grind arith

abbrev pub words_if : Bool → State → Step (List WordModel)
words_if there after = cond there (words_next after) (Ok ([], after))

-- ---- in statements

-- no lines of a block, and the lines after it
abbrev pub no_lines : List Line → Parse (List LineModel)
no_lines rest = Ok ([], rest)

-- no statement is left
abbrev pub ended : List Line → Parse (Option Line)
ended rest = Ok (None, rest)

abbrev pub if_allowed : {A : Type 0} → Bool → NameModel → Result A Fault → Result A Fault
if_allowed allowed key others = cond allowed others (Err (Placed key.spot (cause.UnknownKey key.name)))

abbrev pub unless_none : {A : Type 0} → (none : Bool) → Wanted → State → Result A Fault → Result A Fault
unless_none none want s others = cond none (Err (Placed (spot_of s) (cause.Expected want))) others

abbrev pub path_there : Option WordModel → State → Step WordModel
path_there found after = ok_or found (Placed (spot_of after) (cause.Expected wanted.Path)) >>=
    λ word. Ok (word, after)

abbrev pub unless_missing : {A : Type 0} → (there : Bool) → Fault → Result A Fault → Result A Fault
unless_missing there fault others = cond there others (Err fault)
