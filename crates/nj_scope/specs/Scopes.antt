-- Scopes: which variables and rules a statement sees.
use Rattle.std.specs.Prelude.{◌≡◌, ℕ, Option, Some, None, option_and_then, unwrap_or, List, [], ◌∷◌, slice_get, bytes_eq}
use Rattle.std.specs.Option.{option_or}
use Rattle.std.specs.Map.{lookup}
pub use Rattle.nj_manifest.specs.Expansion.{part_expanded, expanded}

-- the first value that `given` has for an element
abbrev pub first_given : {A X : Type 0} → (given : A → Option X) → List A → Option X
first_given given [] = None
first_given given (a ∷ others) = option_or (given a) (first_given given others)

-- the bindings of each scope itself, by its number and the name
abbrev pub Bounds : Type 0
Bounds = ℕ → List ℕ → Option (List ℕ)

-- A scope is given by its number and the numbers of the scopes around it, the nearest first. The value of a name in it: the
-- value in the scope itself, else in the scopes around it; an unknown name is empty.
abbrev pub value_in : Bounds → (scope : List ℕ) → (name : List ℕ) → List ℕ
value_in bound scope name = unwrap_or (first_given (λ s. bound s name) scope) []

-- a scope with those around it, where each was opened in its parent
pub data IsScope (parent : ℕ → Option ℕ) : ℕ → List ℕ → Type 0 where
  outermost : {s : ℕ} → parent s ≡ None → IsScope parent s (s ∷ [])
  child : {s p : ℕ} {around : List ℕ} → parent s ≡ Some p → IsScope parent p around → IsScope parent s (s ∷ around)

-- ---- the scopes of a run, by their numbers

-- a scope: the number of the scope around it, the names that it binds itself with their values, and the rules that it
-- declares itself with their numbers
pub record ScopeModel : Type 0 where
  pub parent : Option ℕ
  pub values : List (List ℕ × List ℕ)
  pub rules : List (List ℕ × ℕ)

-- something of the scope with the given number
abbrev pub at_scope : {X : Type 0} → (ScopeModel → Option X) → List ScopeModel → ℕ → Option X
at_scope of_scope scopes number = option_and_then of_scope (slice_get scopes number)

-- the number of the scope around it
abbrev pub parent_at : List ScopeModel → ℕ → Option ℕ
parent_at scopes number = at_scope (λ s. s.parent) scopes number

-- the value that it itself binds to the name
abbrev pub bound_at : List ScopeModel → ℕ → List ℕ → Option (List ℕ)
bound_at scopes number name = at_scope (λ s. lookup (bytes_eq name) s.values) scopes number

-- the number of the rule that it itself declares under the name
abbrev pub rule_at : List ScopeModel → ℕ → List ℕ → Option ℕ
rule_at scopes number name = at_scope (λ s. lookup (bytes_eq name) s.rules) scopes number
