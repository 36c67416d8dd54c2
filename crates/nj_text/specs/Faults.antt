-- How a place in a text, a fault of the lexer, and a fault of a path are shown.
use Rattle.std.specs.Prelude.{ℕ, Option, Some, None, List, ◌++◌, codes}
use Rattle.std.specs.Fmt.{decimal}
use Rattle.std.specs.Option.{option_map}
use Rattle.nj_text.specs.declared.spot.Spot.{Spot}
use Rattle.nj_text.specs.declared.fault.LexFault.{LexFault}
use Rattle.nj_text.specs.declared.fault.LexFault.TheVariants as lex
use Rattle.nj_text.specs.declared.paths.TextFault.{TextFault}
use Rattle.nj_text.specs.declared.paths.TextFault.TheVariants as path
use Rattle.nj_text.specs.Calls.{fault_spot, unit_of}

-- `LINE:COLUMN`
abbrev pub spot_text : Spot → List ℕ
spot_text spot = decimal spot.line ++ codes ":" ++ decimal spot.column

-- `LINE:COLUMN: TEXT`, or `TEXT` where the fault has no place
abbrev pub placed_text : Option Spot → (text : List ℕ) → List ℕ
placed_text (Some spot) text = spot_text spot ++ codes ": " ++ text
placed_text None text = text

-- the text of every fault that says that an allocation failed
abbrev pub out_of_memory_text : List ℕ
out_of_memory_text = codes "out of memory"

-- the text of a lexer's fault
abbrev pub lex_text : LexFault → List ℕ
lex_text (lex.BadByte spot) = codes "unexpected byte"
lex_text (lex.Tab spot) = codes "tabs are not allowed, use spaces"
lex_text (lex.BadEscape spot) = codes "bad $-escape (literal $ must be written as $$)"
lex_text lex.OutOfMemory = out_of_memory_text

-- its text with its place
abbrev pub lex_line : LexFault → List ℕ
lex_line fault = placed_text (option_map fault_spot (unit_of fault)) (lex_text fault)

-- the text of a path's fault
abbrev pub path_fault_text : TextFault → List ℕ
path_fault_text path.EmptyPath = codes "empty path"
path_fault_text path.OutOfMemory = out_of_memory_text
