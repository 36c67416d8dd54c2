-- The results of a parser.
use Rattle.std.specs.Prelude.{◌≡◌, Option, option_map, Result, Ok, Err, List}
use Rattle.nj_text.specs.declared.fault.LexFault.TheVariants as lex
use Rattle.nj_text.specs.Lines as lines
use Rattle.nj_manifest.specs.declared.parse_fault.ParseFault.{ParseFault}
use Rattle.nj_manifest.specs.declared.parse_fault.ParseFault.TheVariants as fault
use Rattle.nj_manifest.specs.declared.statement.Placed.{Placed}
use Rattle.nj_manifest.specs.declared.statement.Statement.{Statement}
use Rattle.nj_manifest.specs.Faults.{Fault, fault_text}
use Rattle.nj_manifest.specs.Openings.{Parse}
use Rattle.nj_manifest.specs.Statements.{PlacedModel, next_statement, Left, Lines, Refused}
use Rattle.nj_manifest.specs.Contents.{placed_model}

-- the expected fault; or out of memory, which does not depend on the text
abbrev pub Fails : {Y : Type 0} → ParseFault → Result Y Fault → Type 0
Fails (fault.Lex lex.OutOfMemory) expected = Unit {0}
Fails f expected = expected ≡ Err (fault_text f)

-- the result of a parser if this is read from the lines
abbrev pub ReturnsNext : Parse (Option PlacedModel) → (after : Left) → Result (Option (Placed Statement)) ParseFault → Type 0
ReturnsNext expected after (Ok found) =
    (rest : List lines.Line) × (expected ≡ Ok (option_map placed_model found, rest)) × (after ≡ Lines rest)
ReturnsNext expected after (Err f) = Fails f expected × (after ≡ Refused (fault_text f))

-- the fault that was answered before
abbrev pub Again : Fault → Result (Option (Placed Statement)) ParseFault → Type 0
Again fault (Ok found) = ⊥
Again fault (Err f) = fault_text f ≡ fault

-- It returns the next statement of the lines that are left, and leaves the lines after it; or the first fault, and then
-- that fault permanently.
abbrev pub IsNext : (before after : Left) → Result (Option (Placed Statement)) ParseFault → Type 0
IsNext (Lines ls) after result = ReturnsNext (next_statement ls) after result
IsNext (Refused fault) after result = Again fault result × (after ≡ Refused fault)
