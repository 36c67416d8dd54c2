-- How the references between keys of a rule are held: the keys in byte order, each with a row that states, for each key, whether the
-- value refers to that key.
use Rattle.std.specs.Prelude.{◌≡◌, ◌≢◌, ◌⊎◌, ℕ, ◌<◌, Bool, false, Option, Some, None, unwrap_or, option_map, List, [], length, slice_get, slice_index_or}
use Rattle.std.specs.Ordering.{nat_cmp}
use Rattle.std.specs.declared.cmp.Ordering.TheVariants.{Less}
use Rattle.std.specs.Cmp.Lexicographic.{slice_cmp}
use Rattle.nj_text.specs.Words.{PartModel}
use Rattle.nj_scope.specs.Rules.{RuleLineModel, given}
use Rattle.nj_edge_env.specs.LateStrings.{rule_value, refers}
use Rattle.nj_edge_env.specs.VariableCycles.{variable_cycle_of}

-- a key of a rule, and whether its value refers to each of the keys
pub record ReferringKeyModel : Type 0 where
  pub name : List ℕ
  pub refers : List Bool

-- the key with the given number
abbrev pub name_at : List ReferringKeyModel → (number : ℕ) → List ℕ
name_at keys number = unwrap_or (option_map (λ k. k.name) (slice_get keys number)) []

-- whether the value of the key with the given number refers to each of the keys
abbrev pub row_at : List ReferringKeyModel → (number : ℕ) → List Bool
row_at keys number = unwrap_or (option_map (λ k. k.refers) (slice_get keys number)) []

-- a block that binds nothing
abbrev pub unbound : List ℕ → Option (List ℕ)
unbound name = None

-- whether the value of the key counts and refers to the other name, if no block binds the key
abbrev pub refers_unbound : List RuleLineModel → (key other : List ℕ) → Bool
refers_unbound lines key other = refers (unwrap_or (rule_value unbound lines key) []) other

-- the references of the rule with the given lines
pub record AreReferences (lines : List RuleLineModel) (keys : List ReferringKeyModel) : Type 0 where
  pub all : (key : List ℕ) (value : List PartModel) → given lines key ≡ Some value
      → (number : ℕ) × (number < length keys) × (name_at keys number ≡ key)
  pub rise : (number other : ℕ) → number < other → other < length keys
      → slice_cmp nat_cmp (name_at keys other) (name_at keys number) ≢ Less
  pub rows : (number other : ℕ) → number < length keys → other < length keys
      → slice_index_or (row_at keys number) other false ≡ refers_unbound lines (name_at keys number) (name_at keys other)

-- whatever a block binds, no variable of the rule refers back to itself
abbrev pub NeverCycles : List RuleLineModel → Type 0
NeverCycles lines = (block : List ℕ → Option (List ℕ)) → variable_cycle_of block lines ≡ None

-- the keys held are enough to find the cycles of the rule with the given lines: no keys are held if it never
-- has a cycle
abbrev pub TellsCycles : List RuleLineModel → List ReferringKeyModel → Type 0
TellsCycles lines keys = AreReferences lines keys ⊎ ((keys ≡ []) × NeverCycles lines)
