-- Laws of late strings, in the words of Ninja's manual.
use Rattle.std.specs.Prelude.{◌≡◌, ℕ, Bool, false, Option, Some, None, List}
use Rattle.nj_text.specs.Words.{PartModel}
use Rattle.nj_scope.specs.Scopes.{expanded}
use Rattle.nj_scope.specs.Rules.{RuleLineModel}
use Rattle.nj_edge_env.specs.LateStrings.{LateNames, Denotes, late_text, names_paths, value_given, file_value}
use Rattle.nj_edge_env.specs.VariableCycles.{IsOnCycle, HasNoCycle, IsCycleFound, variable_cycle_of}

-- If no variable of the rule refers back to itself, each name has its late string.
abbrev pub LateTextIsGiven : Type 0
LateTextIsGiven = (quoting : Bool) (n : LateNames) (name : List ℕ) → HasNoCycle n.block n.lines
    → Denotes quoting n name (late_text quoting n name)

-- A name has at most one value.
abbrev pub OneTextIsGiven : Type 0
OneTextIsGiven = (quoting : Bool) (n : LateNames) (name text other : List ℕ) → Denotes quoting n name text → Denotes quoting n name other
    → text ≡ other

-- A variable on a cycle has no value.
abbrev pub CycleGivesNothing : Type 0
CycleGivesNothing = (quoting : Bool) (n : LateNames) (key text : List ℕ) → IsOnCycle n.block n.lines key → ¬ Denotes quoting n key text

-- A binding of the block wins over the rule.
abbrev pub BlockWins : Type 0
BlockWins = (quoting : Bool) (n : LateNames) (name value : List ℕ) → names_paths name ≡ false → n.block name ≡ Some value
    → late_text quoting n name ≡ value

-- The rule wins over the file; its value is expanded by the values of the names in it.
abbrev pub RuleWins : Type 0
RuleWins = (quoting : Bool) (n : LateNames) (name : List ℕ) (parts : List PartModel) → HasNoCycle n.block n.lines
    → names_paths name ≡ false → n.block name ≡ None → value_given n.lines name ≡ Some parts
    → late_text quoting n name ≡ expanded (late_text quoting n) parts

-- Otherwise the file's value counts.
abbrev pub FileIsLast : Type 0
FileIsLast = (quoting : Bool) (n : LateNames) (name : List ℕ) → names_paths name ≡ false → n.block name ≡ None
    → value_given n.lines name ≡ None
    → late_text quoting n name ≡ file_value n name

-- The computed key is the least key that refers back to itself; it is `None` if no key does.
abbrev pub ComputedCycleIsFound : Type 0
ComputedCycleIsFound = (block : List ℕ → Option (List ℕ)) (lines : List RuleLineModel)
    → IsCycleFound block lines (variable_cycle_of block lines)
