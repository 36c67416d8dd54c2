-- How the lines of a rule are held by their keys.
use Rattle.std.specs.Prelude.{◌≡◌, ℕ, Some, List, map, slice_get}
use Rattle.nj_scope.specs.declared.rule.RuleLine.{RuleLine}
use Rattle.nj_scope.specs.Rules.{RuleLineModel}

abbrev pub line_held : RuleLine → RuleLineModel
line_held l = record { key = l.key.items; value = l.value }

-- the indexes are those of the given lines
abbrev pub AreIndexes : List RuleLineModel → (indexes : List ℕ) → (lines : List RuleLineModel) → Type 0
AreIndexes all indexes lines = map (slice_get all) indexes ≡ map Some lines

-- the line at an index has the key
abbrev pub HasKeyAt : List RuleLine → (index : ℕ) → (key : List ℕ) → Type 0
HasKeyAt lines index key = (line : RuleLine) × (slice_get lines index ≡ Some line) × (line.key.items ≡ key)
