-- The statements of a run in reading order, and the values of names, the rules and the pools before one of them.
use Rattle.std.specs.Prelude.{ℕ, ◌+◌, Bool, false, ◌&&◌, ◌==◌, Option, Some, None, List, [], ◌∷◌, map, length, bytes_eq, is_some, ◌||◌, if◌then◌else◌}
use Rattle.std.specs.Option.{option_or, option_map_or}
use Rattle.std.specs.List.{push}
use Rattle.nj_text.specs.Words.{WordModel}
use Rattle.nj_text.specs.declared.spot.Spot.{Spot}
use Rattle.nj_scope.specs.Rules as kept
use Rattle.nj_scope.specs.Rules.{line_kept, phony, phony_rule}
use Rattle.nj_manifest.specs.Statements.{StatementModel, BindingModel, RuleModel, PoolModel, IncludeModel, SubninjaModel}
use Rattle.nj_scope.specs.Scopes.{first_given, Bounds, value_in, expanded}

-- The discoveries for a build statement ("Dynamic Dependencies" and "Deps" in the manual): outputs and inputs, by their clean paths,
-- and whether a dyndep file binds `restat`.
pub record Discovered : Type 0 where
  pub outputs : List (List ℕ)
  pub inputs : List (List ℕ)
  pub restat : Bool

-- A statement that was read: where it is, and its contents.
pub record ReadStatement : Type 0 where
  -- the file, by the name under which it was opened
  pub file : List ℕ
  -- the place of its first byte in the file
  pub spot : Spot
  -- how many files are open around that file; 0 for the main file
  pub depth : ℕ
  -- its scope, and the scopes around it, the nearest first, by their numbers
  pub scope : ℕ
  pub around : List ℕ
  pub item : StatementModel
  -- whether a dyndep file was joined to it
  pub was_joined : Bool
  -- all that was discovered for it, by dyndep files and by deps logs; `None` until something is
  pub discovered : Option Discovered

-- its scope, with the scopes around it
abbrev pub scope_of : ReadStatement → List ℕ
scope_of e = e.scope ∷ e.around

-- ---- values

-- the value that a statement binds to a name, where the names in its value have the given values
abbrev pub binds : (value : List ℕ → List ℕ) → StatementModel → (name : List ℕ) → Option (List ℕ)
binds value (BindingModel bound word) name = if bytes_eq name bound then Some (expanded value word.parts) else None
binds value item name = None

-- the value that a statement binds in a scope
abbrev pub binds_in : (number : ℕ) → ReadStatement → (value : List ℕ → List ℕ) → (name : List ℕ) → Option (List ℕ)
binds_in number e value name = if number == e.scope then binds value e.item name else None

-- The bindings of each scope after some statements, the last read first. A value is expanded where it is read: by the
-- bindings of the statements before it.
unfoldable pub bounds : List ReadStatement → Bounds
bounds [] number name = None
bounds (e ∷ before) number name = option_or (binds_in number e (value_in (bounds before) (scope_of e)) name) (bounds before number name)

-- the value of a name in a scope, after the given statements
abbrev pub value_after : List ReadStatement → (scope name : List ℕ) → List ℕ
value_after entries scope name = value_in (bounds entries) scope name

-- the same, or `None` if neither the scope nor a scope around it binds the name
abbrev pub value_if_bound : List ReadStatement → (scope name : List ℕ) → Option (List ℕ)
value_if_bound entries scope name = first_given (λ s. bounds entries s name) scope

-- a word that is expanded in a scope, by the statements before it, the last read first
abbrev pub expanded_in : (scope : List ℕ) → (before : List ReadStatement) → WordModel → List ℕ
expanded_in scope before word = expanded (value_after before scope) word.parts

-- ---- lists of declarations

-- The values that `given` has for statements, in reading order; each by the statements before it, the last read first.
abbrev pub gathered : {A : Type 0} → (given : ReadStatement → List ReadStatement → StatementModel → Option A) → List ReadStatement → List A
gathered given [] = []
gathered given (e ∷ before) = let others = gathered given before in option_map_or (push others) (given e before e.item) others

-- ---- rules

-- the rule that a statement declares, if any
abbrev pub rule_given : ReadStatement → (before : List ReadStatement) → StatementModel → Option kept.RuleModel
rule_given e before (RuleModel name lines) = Some (record { scope = e.scope; name = name.name; lines = map line_kept lines })
rule_given e before item = None

-- the rules in the order of their numbers: `phony`, and then those that were declared, in their order
abbrev pub rules_read : List ReadStatement → List kept.RuleModel
rules_read entries = phony_rule ∷ gathered rule_given entries

-- the statement declares a rule with the given name
abbrev pub declares : StatementModel → (name : List ℕ) → Bool
declares (RuleModel declared lines) name = bytes_eq name declared.name
declares item name = false

-- the number of the rule that a scope itself declares under a name
abbrev pub rules : List ReadStatement → (number : ℕ) → (name : List ℕ) → Option ℕ
rules [] number name = None
rules (e ∷ before) number name =
    option_or (if number == e.scope && declares e.item name then Some (length (rules_read before)) else None) (rules before number name)

-- whether a name is taken, given the rule that its own scope declares under it; `phony` is always taken
abbrev pub is_declared : Option ℕ → (name : List ℕ) → Bool
is_declared own name = bytes_eq name phony || is_some own

-- The number of the rule that is in force under a name in a scope, after the given statements: 0 for `phony`, otherwise
-- that of the nearest scope which declares a rule under the name.
abbrev pub rule_in_force : List ReadStatement → (scope name : List ℕ) → Option ℕ
rule_in_force entries scope name = if bytes_eq name phony then Some 0 else first_given (λ s. rules entries s name) scope

-- ---- pools

-- the name of the pool that a statement declares, if any
abbrev pub pool_given : ReadStatement → (before : List ReadStatement) → StatementModel → Option (List ℕ)
pool_given e before (PoolModel name lines) = Some name.name
pool_given e before item = None

-- the pools in the order in which they were declared
abbrev pub pools : List ReadStatement → List (List ℕ)
pools entries = gathered pool_given entries

-- ---- scopes and openings

-- the number of the scope in which a `subninja` opens one
abbrev pub scope_given : ReadStatement → (before : List ReadStatement) → StatementModel → Option ℕ
scope_given e before (SubninjaModel word) = Some e.scope
scope_given e before item = None

-- how many scopes there are, the main file's among them
abbrev pub scopes_opened : List ReadStatement → ℕ
scopes_opened entries = length (gathered scope_given entries) + 1

-- the path of the file that a statement opens
abbrev pub path_named : ReadStatement → (before : List ReadStatement) → StatementModel → Option (List ℕ)
path_named e before (IncludeModel word) = Some (expanded_in (scope_of e) before word)
path_named e before (SubninjaModel word) = Some (expanded_in (scope_of e) before word)
path_named e before item = None

-- how many files were opened, the main file and repeated ones among them
abbrev pub files_opened : List ReadStatement → ℕ
files_opened entries = length (gathered path_named entries) + 1
