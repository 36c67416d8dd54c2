-- Cycles of a rule's variables.
use Rattle.std.specs.Prelude.{◌≡◌, ◌≢◌, ℕ, zero, suc, true, Option, Some, None, unwrap_or, List, [], ◌∷◌, map, filter, length}
use Rattle.std.specs.List.{list_any, reduce}
use Rattle.std.specs.Ordering.{nat_cmp, min_by_ordering}
use Rattle.std.specs.declared.cmp.Ordering.TheVariants.{Less}
use Rattle.std.specs.Cmp.Lexicographic.{slice_cmp}
use Rattle.nj_text.specs.Words.{PartModel}
use Rattle.nj_cycles.specs.Cycles.{Chain}
use Rattle.nj_scope.specs.Rules.{RuleLineModel}
use Rattle.nj_edge_env.specs.LateStrings.{rule_value, refers}
use Rattle.nj_names.specs.NameTables.{is_among}

-- the rule's value of the key counts, since the block does not bind the key, and a part of the value is a reference to the
-- other name
abbrev pub RefersTo : (block : List ℕ → Option (List ℕ)) → List RuleLineModel → (key other : List ℕ) → Type 0
RefersTo block lines key other = (parts : List PartModel) × (rule_value block lines key ≡ Some parts) × (refers parts other ≡ true)

-- by one or more references
abbrev pub Reaches : (block : List ℕ → Option (List ℕ)) → List RuleLineModel → (key other : List ℕ) → Type 0
Reaches block lines = Chain (RefersTo block lines)

-- a key reaches itself
abbrev pub IsOnCycle : (block : List ℕ → Option (List ℕ)) → List RuleLineModel → (key : List ℕ) → Type 0
IsOnCycle block lines key = Reaches block lines key key

-- no key reaches itself
abbrev pub HasNoCycle : (block : List ℕ → Option (List ℕ)) → List RuleLineModel → Type 0
HasNoCycle block lines = (key : List ℕ) → ¬ IsOnCycle block lines key

-- the least key on a cycle, by bytes
abbrev pub IsLeastOnCycle : (block : List ℕ → Option (List ℕ)) → List RuleLineModel → (key : List ℕ) → Type 0
IsLeastOnCycle block lines key =
    IsOnCycle block lines key × ((other : List ℕ) → IsOnCycle block lines other → slice_cmp nat_cmp other key ≢ Less)

-- the result of the check
abbrev pub IsCycleFound : (block : List ℕ → Option (List ℕ)) → List RuleLineModel → Option (List ℕ) → Type 0
IsCycleFound block lines None = HasNoCycle block lines
IsCycleFound block lines (Some key) = IsLeastOnCycle block lines key

-- ---- cycles, computed

-- the keys of a rule's lines
abbrev pub keys_of : List RuleLineModel → List (List ℕ)
keys_of lines = map (λ l. l.key) lines

-- the keys whose values refer to one of the names
abbrev pub referring : (block : List ℕ → Option (List ℕ)) → List RuleLineModel → (names : List (List ℕ)) → List (List ℕ)
referring block lines names = filter (λ key. list_any (refers (unwrap_or (rule_value block lines key) [])) names) (keys_of lines)

-- the keys that reach the name by `steps` references or fewer
abbrev pub reaching : (steps : ℕ) → (block : List ℕ → Option (List ℕ)) → List RuleLineModel → (name : List ℕ) → List (List ℕ)
reaching zero block lines name = []
reaching (suc steps) block lines name = referring block lines (name ∷ reaching steps block lines name)

-- the keys that reach themselves; a shortest way back to a key takes at most as many references as there are
-- lines
abbrev pub keys_on_cycles : (block : List ℕ → Option (List ℕ)) → List RuleLineModel → List (List ℕ)
keys_on_cycles block lines = filter (λ key. is_among (reaching (length lines) block lines key) key) (keys_of lines)

-- the least key on a cycle, by bytes
unfoldable pub variable_cycle_of : (block : List ℕ → Option (List ℕ)) → List RuleLineModel → Option (List ℕ)
variable_cycle_of block lines = reduce (λ key other. min_by_ordering (slice_cmp nat_cmp key other) key other) (keys_on_cycles block lines)
