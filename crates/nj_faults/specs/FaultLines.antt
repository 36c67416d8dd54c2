-- The line that reports a fault, and its text for people to read.
use Rattle.std.specs.Prelude.{ℕ, List, [], ◌++◌, unwrap_or, codes}
use Rattle.std.specs.Fmt.{decimal}
use Rattle.std.specs.Option.{option_map}
use Rattle.std.specs.Str.Lossy.{utf8_lossy}
use Rattle.nj_text.specs.Faults.{spot_text, out_of_memory_text}
use Rattle.nj_manifest.specs.Faults.{syntax_text}
use Rattle.nj_faults.specs.Limits.{most_open, most_opened}
use Rattle.nj_faults.specs.Versions.{reader_version_text}
use Rattle.nj_faults.specs.declared.fault.Place.{Place}
use Rattle.nj_faults.specs.declared.fault.GraphFault.{GraphFault}
use Rattle.nj_faults.specs.declared.fault.Cause.{Cause}
use Rattle.nj_faults.specs.declared.fault.Cause.TheVariants as cause

-- `FILE:LINE:COLUMN: `; a name is written as `shown` has it
abbrev pub opening_text : (shown : List ℕ → List ℕ) → Place → List ℕ
opening_text shown place = shown place.file ++ codes ":" ++ decimal place.spot.line ++ codes ":" ++ decimal place.spot.column ++ codes ": "

-- names are written as `shown` has them
abbrev pub cause_text : (shown : List ℕ → List ℕ) → Cause → List ℕ
cause_text shown (cause.Syntax what) = syntax_text shown what
cause_text shown cause.EmptyPath = codes "empty path"
cause_text shown cause.BadDepth = codes "invalid pool depth"
cause_text shown (cause.DuplicateRule name) = codes "duplicate rule '" ++ shown name ++ codes "'"
cause_text shown (cause.DuplicatePool name) = codes "duplicate pool '" ++ shown name ++ codes "'"
cause_text shown (cause.VersionTooNew version) =
    codes "ninja_required_version " ++ shown version ++ codes " is newer than " ++ reader_version_text
cause_text shown (cause.Missing path) = codes "cannot find '" ++ shown path ++ codes "'"
cause_text shown cause.PathNotText = codes "path is not UTF-8"
cause_text shown cause.TooDeep = codes "more than " ++ decimal most_open ++ codes " files open"
cause_text shown cause.TooManyOpenings = codes "more than " ++ decimal most_opened ++ codes " files opened"
cause_text shown (cause.Io path) = codes "cannot read '" ++ shown path ++ codes "'"
cause_text shown (cause.UnknownRule name) = codes "unknown build rule '" ++ shown name ++ codes "'"
cause_text shown (cause.TwoMakers path) = codes "multiple rules generate " ++ shown path
cause_text shown (cause.UnknownTarget path) = codes "unknown target '" ++ shown path ++ codes "'"
cause_text shown (cause.RuleVariableCycle key) = codes "cycle in rule variables at '" ++ shown key ++ codes "'"
cause_text shown (cause.UnknownPool name) = codes "unknown pool name '" ++ shown name ++ codes "'"
cause_text shown (cause.DyndepNotInput path) = codes "dyndep '" ++ shown path ++ codes "' is not an input"
cause_text shown (cause.DyndepNoStatement path file) =
    codes "'" ++ shown path ++ codes "' not mentioned in its dyndep file '" ++ shown file ++ codes "'"
cause_text shown (cause.DyndepTwice path) = codes "multiple statements for '" ++ shown path ++ codes "'"
cause_text shown (cause.DyndepExtra path) = codes "'" ++ shown path ++ codes "' has no dyndep binding for this file"
cause_text shown (cause.Cycle path) = codes "dependency cycle through '" ++ shown path ++ codes "'"
cause_text shown (cause.NoOutEdge path) = codes "'" ++ shown path ++ codes "' has no out edge"
cause_text shown cause.TextNotUtf8 = codes "text is not UTF-8"
cause_text shown cause.OutOfMemory = out_of_memory_text

-- the place of a fault, or `otherwise` without a place; and its text
abbrev pub line_after : (shown : List ℕ → List ℕ) → (otherwise : List ℕ) → GraphFault → List ℕ
line_after shown otherwise fault = unwrap_or (option_map (opening_text shown) fault.place) otherwise ++ cause_text shown fault.cause

-- `FILE:LINE:COLUMN: TEXT`, or `ninja-explain: TEXT`
abbrev pub fault_line : GraphFault → List ℕ
fault_line fault = line_after (λ name. name) (codes "ninja-explain: ") fault

-- `FILE:LINE:COLUMN: TEXT`, or `PROGRAM: TEXT`
abbrev pub fault_line_for : (program : List ℕ) → GraphFault → List ℕ
fault_line_for program fault = line_after (λ name. name) (program ++ codes ": ") fault

-- `FILE:LINE:COLUMN: TEXT`, or `TEXT`
abbrev pub bare_line : GraphFault → List ℕ
bare_line fault = line_after (λ name. name) [] fault

-- ---- for people to read, with U+FFFD for invalid UTF-8 in names

-- the line of a fault, with bytes that are not UTF-8 replaced
abbrev pub shown_line : GraphFault → List ℕ
shown_line fault = line_after utf8_lossy [] fault

-- `FILE:LINE:COLUMN`
abbrev pub shown_place : Place → List ℕ
shown_place place = utf8_lossy place.file ++ codes ":" ++ spot_text place.spot
