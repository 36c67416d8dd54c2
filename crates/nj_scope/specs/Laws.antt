-- Laws of bindings and declarations, in terms of Ninja's manual.
use Rattle.std.specs.Prelude.{◌≡◌, ◌⊎◌, ℕ, ◌+◌, Bool, false, ◌&&◌, ◌==◌, if◌then◌else◌, Option, Some, is_some, List, [], ◌∷◌, ◌++◌, length, slice_get, bytes_eq}
use Rattle.std.specs.List.{Contains}
use Rattle.nj_text.specs.Words.{WordModel}
use Rattle.nj_manifest.specs.Statements.{StatementModel, BindingModel}
use Rattle.nj_scope.specs.Rules as kept
use Rattle.nj_scope.specs.Rules.{phony_rule}
use Rattle.nj_scope.specs.Scopes.{expanded}
use Rattle.nj_scope.specs.ReadingList.{ReadStatement, scope_of, bounds, value_after, rules_read, rule_in_force}

-- the statement binds the name
abbrev pub binds_name : StatementModel → (name : List ℕ) → Bool
binds_name (BindingModel bound word) name = bytes_eq name bound
binds_name item name = false

-- no statement in the given scope binds the name
abbrev pub NoneBinds : List ReadStatement → (number : ℕ) → (name : List ℕ) → Type 0
NoneBinds [] number name = Unit {0}
NoneBinds (e ∷ others) number name = ((number == e.scope && binds_name e.item name) ≡ false) × NoneBinds others number name

-- The value of a name in a scope that binds it itself is the value of its last binding there, expanded by the bindings before
-- it.
abbrev pub LastBindingCounts : Type 0
LastBindingCounts = (after before : List ReadStatement) (e : ReadStatement) (name : List ℕ) (word : WordModel)
    → e.item ≡ BindingModel name word → NoneBinds after e.scope name
    → value_after (after ++ e ∷ before) (scope_of e) name ≡ expanded (value_after before (scope_of e)) word.parts

-- In a scope that does not bind it, a name has the value that it has in the scopes around.
abbrev pub OthersAreInherited : Type 0
OthersAreInherited = (entries : List ReadStatement) (number : ℕ) (around name : List ℕ) → NoneBinds entries number name
    → value_after entries (number ∷ around) name ≡ value_after entries around name

-- A binding of a scope does not change the values of another scope's own names.
abbrev pub OthersKeepTheirs : Type 0
OthersKeepTheirs = (e : ReadStatement) (before : List ReadStatement) (number : ℕ) (name : List ℕ) → (number == e.scope) ≡ false
    → bounds (e ∷ before) number name ≡ bounds before number name

-- A rule that is in force under a name has that name, and one of the scopes declares it; `phony` is the main file's.
abbrev pub InForceIsDeclared : Type 0
InForceIsDeclared = (entries : List ReadStatement) (scope name : List ℕ) (number : ℕ) → rule_in_force entries scope name ≡ Some number
    → (rule : kept.RuleModel) × (slice_get (rules_read entries) number ≡ Some rule) × (rule.name ≡ name)
    × ((rule ≡ phony_rule) ⊎ Contains scope rule.scope)

-- ---- lists of declarations

-- for how many of the statements `given` has a value
abbrev pub givers : {A : Type 0} → (given : ReadStatement → List ReadStatement → StatementModel → Option A) → List ReadStatement → ℕ
givers given [] = 0
givers given (e ∷ before) = givers given before + (if is_some (given e before e.item) then 1 else 0)

-- The k-th element of the list is the value of the k-th statement that has a value, by the statements before it.
pub record IsInReadingOrder {A : Type 0} (given : ReadStatement → List ReadStatement → StatementModel → Option A)
    (list : List ReadStatement → List A) : Type 0 where
  -- there are as many elements as statements that have a value
  pub count : (entries : List ReadStatement) → length (list entries) ≡ givers given entries
  -- the index of a statement's element is the number of statements before it that have a value
  pub each : (after before : List ReadStatement) (e : ReadStatement) (x : A) → given e before e.item ≡ Some x
      → slice_get (list (after ++ e ∷ before)) (givers given before) ≡ Some x
