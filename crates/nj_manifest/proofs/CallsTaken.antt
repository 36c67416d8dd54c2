-- The result of a call of the lexer, as a step.
use Rattle.std.proofs.Common.{arith, ◌≡◌, Result, Ok, Err, sym, ap, ◌∙◌}
use Rattle.std.specs.Result.{IsErr, IsErrAnd}
use Rattle.nj_text.specs.declared.fault.UnitFault.{UnitFault}
use Rattle.nj_text.specs.declared.fault.UnitFault.TheVariants as unit_fault
use Rattle.nj_text.specs.declared.fault.LexFault.{LexFault}
use Rattle.nj_text.specs.declared.fault.LexFault.TheVariants as lex
use Rattle.nj_text.specs.Calls.{State, Reply, FailsOrLacksMemory, unit_of}
use Rattle.nj_manifest.specs.declared.parse_fault.ParseFault.{ParseFault}
use Rattle.nj_manifest.specs.declared.parse_fault.ParseFault.TheVariants as fault
use Rattle.nj_manifest.specs.Faults.{Fault, bad_unit, fault_text}
use Rattle.nj_manifest.specs.LineSteps.{Step, called}
use Rattle.nj_manifest.specs.Parsers.{Fails}
use Rattle.nj_manifest.specs.Inside.ParserContracts.{TakesStep}

pub gave : {Y : Type 0} (y : Y) (after : State) (r : Reply Y) → r ≡ Ok (y, after) → called r ≡ Ok (y, after)
gave y after r h = ap called h

failed-so : {Y : Type 0} (f : UnitFault) (r : Reply Y) → r ≡ Err f → called r ≡ Err (bad_unit f)
failed-so f r h = ap called h

-- a step that fails with a fault of the lexer
pub fails-by : {X Y : Type 0} (f : LexFault) (before after : State) (r : Reply X) (whole : Result Y Fault)
    → FailsOrLacksMemory (unit_of f) before after r
    → ((unit : UnitFault) → called r ≡ Err (bad_unit unit) → whole ≡ Err (bad_unit unit))
    → Fails (fault.Lex f) whole
fails-by lex.OutOfMemory before after r whole h so = tt
fails-by (lex.BadByte spot) before after r whole h so =
    so (unit_fault.BadByte spot) (failed-so (unit_fault.BadByte spot) r h.0)
fails-by (lex.Tab spot) before after r whole h so =
    so (unit_fault.Tab spot) (failed-so (unit_fault.Tab spot) r h.0)
fails-by (lex.BadEscape spot) before after r whole h so =
    so (unit_fault.BadEscape spot) (failed-so (unit_fault.BadEscape spot) r h.0)

-- the error that `?` returns
pub handed-on : {X Y : Type 0} (view : X → Y) (f : LexFault) (r : Result X ParseFault) (after : State)
    (whole : Step Y) → IsErr r × IsErrAnd r (λ e. e ≡ fault.Lex f) → Fails (fault.Lex f) whole
    → TakesStep view r after whole
handed-on view f r after whole h so = grind arith

-- the result of a function with this fault
pub fails-so : {Y : Type 0} (f : ParseFault) (whole : Result Y Fault) → whole ≡ Err (fault_text f)
    → Fails f whole
fails-so f whole h = grind arith

-- a call that is made where another call took nothing
pub made-there : {Y : Type 0} (call : State → Reply Y) (before there : State) (step : Step Y) → there ≡ before
    → called (call there) ≡ step → called (call before) ≡ step
made-there call before there step e h = ap (λ s. called (call s)) (sym e) ∙ h
