-- Why a text is not a list of statements.
use Rattle.std.specs.Prelude.{ℕ, Bool, true, false, Option, Some, None, List, ◌++◌, codes}
use Rattle.std.specs.Option.{option_map_or}
use Rattle.std.specs.Str.Lossy.{utf8_lossy}
use Rattle.nj_text.specs.declared.fault.UnitFault.{UnitFault}
use Rattle.nj_text.specs.declared.fault.UnitFault.TheVariants as unit_fault
use Rattle.nj_text.specs.declared.fault.LexFault.TheVariants as lex
use Rattle.nj_text.specs.declared.spot.Spot.{Spot}
use Rattle.nj_text.specs.Faults.{placed_text, out_of_memory_text}
use Rattle.nj_manifest.specs.declared.cause.SyntaxCause.{SyntaxCause}
use Rattle.nj_manifest.specs.declared.cause.SyntaxCause.TheVariants as cause
use Rattle.nj_manifest.specs.declared.cause.Wanted.{Wanted}
use Rattle.nj_manifest.specs.declared.cause.Wanted.TheVariants as wanted
use Rattle.nj_manifest.specs.declared.parse_fault.ParseFault.{ParseFault}
use Rattle.nj_manifest.specs.declared.parse_fault.ParseFault.TheVariants as fault

-- a fault: its place and its cause; or out of memory, which is the program's own and has no place
pub data Fault : Type 0 where
  Placed : (spot : Spot) (cause : SyntaxCause (List ℕ)) → Fault
  OutOfMemory : Fault

-- the fault of a bad unit
abbrev pub bad_unit : UnitFault → Fault
bad_unit (unit_fault.BadByte spot) = Placed spot cause.BadByte
bad_unit (unit_fault.Tab spot) = Placed spot cause.Tab
bad_unit (unit_fault.BadEscape spot) = Placed spot cause.BadEscape

-- a parser's fault
abbrev pub fault_text : ParseFault → Fault
fault_text (fault.Lex (lex.BadByte spot)) = Placed spot cause.BadByte
fault_text (fault.Lex (lex.Tab spot)) = Placed spot cause.Tab
fault_text (fault.Lex (lex.BadEscape spot)) = Placed spot cause.BadEscape
fault_text (fault.Lex lex.OutOfMemory) = OutOfMemory
fault_text (fault.Expected spot wanted) = Placed spot (cause.Expected wanted)
fault_text (fault.UnexpectedIndent spot) = Placed spot cause.UnexpectedIndent
fault_text (fault.MissingCommand spot) = Placed spot cause.MissingCommand
fault_text (fault.RspPair spot) = Placed spot cause.RspPair
fault_text (fault.UnknownKey spot key) = Placed spot (cause.UnknownKey key.now)
fault_text (fault.MissingDepth spot) = Placed spot cause.MissingDepth
fault_text (fault.DyndepVersion spot) = Placed spot cause.DyndepVersion
fault_text (fault.DyndepShape spot) = Placed spot cause.DyndepShape

-- A fault of the syntax of statements; the others are of a whole block that lacks a line, or of dyndep files.
abbrev pub is_syntax : Fault → Bool
is_syntax (Placed spot cause.BadByte) = true
is_syntax (Placed spot cause.Tab) = true
is_syntax (Placed spot cause.BadEscape) = true
is_syntax (Placed spot (cause.Expected wanted)) = true
is_syntax (Placed spot cause.UnexpectedIndent) = true
is_syntax (Placed spot (cause.UnknownKey key)) = true
is_syntax fault = false

-- the text for the wanted element
abbrev pub wanted_text : Wanted → List ℕ
wanted_text wanted.Statement = codes "statement"
wanted_text wanted.RuleName = codes "rule name"
wanted_text wanted.PoolName = codes "pool name"
wanted_text wanted.Path = codes "path"
wanted_text wanted.Colon = codes "':'"
wanted_text wanted.CommandName = codes "build command name"
wanted_text wanted.TargetName = codes "target name"
wanted_text wanted.VariableName = codes "variable name"
wanted_text wanted.Equals = codes "'='"
wanted_text wanted.Newline = codes "newline"

-- ---- the place and the text of a fault

-- the place of a fault; out of memory has none
abbrev pub place_of : Fault → Option Spot
place_of (Placed spot cause) = Some spot
place_of OutOfMemory = None

-- the cause of a fault; out of memory has none
abbrev pub syntax_cause : Fault → Option (SyntaxCause (List ℕ))
syntax_cause (Placed spot cause) = Some cause
syntax_cause OutOfMemory = None

-- the text of a cause, with the name as `shown` has it
abbrev pub syntax_text : {N : Type 0} → (shown : N → List ℕ) → SyntaxCause N → List ℕ
syntax_text shown cause.BadByte = codes "unexpected byte"
syntax_text shown cause.Tab = codes "tabs are not allowed, use spaces"
syntax_text shown cause.BadEscape = codes "bad $-escape (literal $ must be written as $$)"
syntax_text shown (cause.Expected wanted) = codes "expected " ++ wanted_text wanted
syntax_text shown cause.UnexpectedIndent = codes "unexpected indent"
syntax_text shown cause.MissingCommand = codes "expected 'command =' line"
syntax_text shown cause.RspPair = codes "rspfile and rspfile_content need to be both specified"
syntax_text shown (cause.UnknownKey key) = codes "unexpected variable '" ++ shown key ++ codes "'"
syntax_text shown cause.MissingDepth = codes "expected 'depth =' line"
syntax_text shown cause.DyndepVersion = codes "expected 'ninja_dyndep_version = 1'"
syntax_text shown cause.DyndepShape = codes "not a dyndep statement"

-- ---- for people to read

-- A text with names in it: its bytes, and the same with U+FFFD for invalid UTF-8 in the names.
pub record Message : Type 0 where
  pub exact : List ℕ
  pub shown : List ℕ

-- `LINE:COLUMN: TEXT`, or `TEXT` where the fault has no place
abbrev pub shown_fault : Fault → List ℕ
shown_fault fault = placed_text (place_of fault) (option_map_or (syntax_text utf8_lossy) (syntax_cause fault) out_of_memory_text)

-- ---- the same cause, with a name made of its name

-- a cause with its names written in another way
abbrev pub named_by : {N M : Type 0} → (N → M) → SyntaxCause N → SyntaxCause M
named_by named cause.BadByte = cause.BadByte
named_by named cause.Tab = cause.Tab
named_by named cause.BadEscape = cause.BadEscape
named_by named (cause.Expected wanted) = cause.Expected wanted
named_by named cause.UnexpectedIndent = cause.UnexpectedIndent
named_by named cause.MissingCommand = cause.MissingCommand
named_by named cause.RspPair = cause.RspPair
named_by named (cause.UnknownKey key) = cause.UnknownKey (named key)
named_by named cause.MissingDepth = cause.MissingDepth
named_by named cause.DyndepVersion = cause.DyndepVersion
named_by named cause.DyndepShape = cause.DyndepShape
