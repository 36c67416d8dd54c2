-- The output and the block of an entry, step by step.
use Rattle.std.proofs.Common.{arith, ◌≡◌, Bool, false, not, Option, Some, None, Result, Ok, Err}
use Rattle.std.proofs.Common.{codes}
use Rattle.nj_text.specs.declared.sign.Sign.TheVariants as sign
use Rattle.nj_text.specs.declared.line_start.LineStart.{LineStart}
use Rattle.nj_text.specs.declared.line_start.LineStart.TheVariants as start
use Rattle.nj_text.specs.Words.{WordModel}
use Rattle.nj_text.specs.Calls.{State, start_line_of, sign_of, path_word_of, spot_of}
use Rattle.nj_manifest.specs.declared.cause.SyntaxCause.TheVariants as cause
use Rattle.nj_manifest.specs.declared.cause.Wanted.TheVariants as wanted
use Rattle.nj_manifest.specs.Faults.{Fault, Placed}
use Rattle.nj_manifest.specs.LineSteps.{Step, ◌>>=◌, called, name_next}
use Rattle.nj_manifest.specs.Statements.{equals_value}
use Rattle.nj_manifest.specs.Dyndeps.{word_of_form, no_path, output_next, has_text, if_indented, in_block}
use Rattle.nj_manifest.specs.Dyndeps.{restat_block}
use Rattle.nj_manifest.proofs.Choices.{unless_missing}

-- ---- the output

abbrev pub first_output : Option WordModel → State → Step WordModel
first_output (Some word) after = Ok (word, after)
first_output None after = called (sign_of sign.Pipe after) >>=
    λ pipe. unless_missing (not pipe.0) (Placed (spot_of after) cause.DyndepShape)
    (Err (Placed (spot_of after) (cause.Expected wanted.Path)))

pub output-steps : (s : State) → output_next s
    ≡ (called (path_word_of s) >>= λ found. first_output found.0 found.1 >>= λ out. no_path out.1 >>=
    λ end. Ok (out.0, end))
unfolding output_next
output-steps s = grind arith

-- ---- the block

-- `restat = VALUE`
unfoldable pub restat_line : State → Step Bool
restat_line s = do
  key ← word_of_form (codes "restat") wanted.VariableName s
  value ← equals_value key
  Ok (has_text value.0, value.1)

-- a second line of the block, which departs from the form at its key
abbrev pub line_too_many : State → Step Bool
line_too_many s = name_next wanted.VariableName s >>= λ name. Err (Placed name.0.spot cause.DyndepShape)

-- after a line of the block
abbrev pub first_line : State → Step Bool
first_line line = restat_line line >>= λ restat. in_block restat.0 restat.1 line_too_many

pub block-lines : (s : State) → restat_block s ≡ in_block false s first_line
unfolding restat_block restat_line
block-lines s = grind arith

-- ---- the end of the block, whatever it binds

-- the state after a reading
abbrev pub end_of : {A : Type 0} → Step A → Result State Fault
end_of r = r >>= λ x. Ok x.1

unfoldable pub restat_end : State → Result State Fault
restat_end s = do
  key ← word_of_form (codes "restat") wanted.VariableName s
  value ← equals_value key
  Ok value.1

abbrev pub too_many_end : State → Result State Fault
too_many_end s = name_next wanted.VariableName s >>= λ name. Err (Placed name.0.spot cause.DyndepShape)

abbrev pub end_if_indented : LineStart → State → (indented : State → Result State Fault) → Result State Fault
end_if_indented start.Indented s indented = indented s
end_if_indented other s indented = Ok s

abbrev pub first_end : State → Result State Fault
first_end line = restat_end line >>= λ restat. called (start_line_of restat) >>=
    λ second. end_if_indented second.0 second.1 too_many_end

ends-indented : (bound : Bool) (x : LineStart) (m : State) (line : State → Step Bool)
    (end : State → Result State Fault)
    → ((t : State) → end_of (line t) ≡ end t) → end_of (if_indented bound x m line) ≡ end_if_indented x m end
ends-indented bound x m line end h = grind arith

ends-block : (bound : Bool) (s : State) (line : State → Step Bool) (end : State → Result State Fault)
    → ((t : State) → end_of (line t) ≡ end t)
    → end_of (in_block bound s line) ≡ (called (start_line_of s) >>=
    λ first. end_if_indented first.0 first.1 end)
ends-block bound s line end h = grind arith

ends-many : (s : State) → end_of (line_too_many s) ≡ too_many_end s
ends-many s = grind arith

ends-line : (s : State) → end_of (first_line s) ≡ first_end s
unfolding restat_line restat_end
ends-line s = grind arith

pub block-end : (s : State)
    → end_of (restat_block s) ≡ (called (start_line_of s) >>=
    λ first. end_if_indented first.0 first.1 first_end)
block-end s = grind (arith, block-lines s, ends-block false s first_line first_end ends-line)
