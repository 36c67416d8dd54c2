-- Discoveries for a statement change nothing else of the statements.
use Rattle.std.proofs.Common.{◌≡◌, ℕ, suc, ◌+◌, ◌==◌, ◌&&◌, Bool, true, false, if◌then◌else◌, List, [], ◌∷◌}
use Rattle.std.proofs.Common.{◌++◌, length, map, Option, Some, None, slice_get, bytes_eq, refl, sym, ap, ◌∙◌}
use Rattle.std.proofs.Common.{subst}
use Rattle.std.specs.Prelude.{is_some}
use Rattle.nj_statements.specs.Inside.JoiningSteps.{discover_for}
use Rattle.nj_statements.specs.Inside.EdgeSteps.{lines_of_rule}
use Rattle.std.specs.Option.{option_or}
use Rattle.std.specs.List.{AllByRecursion}
use Rattle.nj_manifest.specs.Statements.{StatementModel, BindingModel, RuleModel, PoolModel, BuildModel}
use Rattle.nj_manifest.specs.Statements.{DefaultModel, IncludeModel, SubninjaModel}
use Rattle.nj_manifest.specs.Dyndeps.{EntryModel}
use Rattle.nj_scope.specs.Rules as kept
use Rattle.nj_scope.specs.Rules.{phony, phony_rule}
use Rattle.nj_scope.specs.Scopes.{Bounds, first_given, value_in, expanded}
use Rattle.nj_scope.specs.Declarations.{DeclarationsModel, DeclaredBy}
use Rattle.nj_scope.specs.ReadingList.{Discovered, ReadStatement, scope_of, binds_in, bounds, value_after}
use Rattle.nj_scope.specs.ReadingList.{rule_given, rules_read, declares, rules, rule_in_force, is_declared}
use Rattle.nj_scope.proofs.NewRules.{RuleIsNew, EachRuleIsNew}
use Rattle.nj_scope.specs.ReadingList.{pool_given, pools, scope_given, path_named, scopes_opened}
use Rattle.nj_scope.specs.ReadingList.{files_opened}
use Rattle.nj_scope.proofs.Gathering.{gathered-map}
use Rattle.nj_edge_env.specs.LateStrings.{LateNames}
use Rattle.nj_statements.specs.EdgeList.{EdgeModel, paths_given, edges_read, with_defaults, defaults_read}
use Rattle.nj_statements.specs.EdgeList.{names_of_edge, edge_given}
use Rattle.nj_statements.specs.Joining.{and_found, also_discovered, discover, discovered_by, edge_meant}
use Rattle.nj_statements.specs.Joining.{with_entry}
use Rattle.nj_statements.specs.Laws.{NamesStay}

-- ---- statements as they were read

abbrev pub unseen : ReadStatement → ReadStatement
unseen e = record e { was_joined = false; discovered = None }

-- discoveries do not count; statements that are the same then differ in them alone
abbrev pub as_read : List ReadStatement → List ReadStatement
as_read entries = map unseen entries

pub as_read-discover : (edge : ℕ) (found : Discovered) (entries : List ReadStatement)
    → as_read (discover edge found entries) ≡ as_read entries
unfolding discover
as_read-discover edge found [] = refl
as_read-discover edge found (e ∷ before) =
    by (is_some (edge_given e before e.item) && length (edges_read before) == edge)
    (as_read-discover edge found before)
  where
    by : (b : Bool) → as_read (discover edge found before) ≡ as_read before
        → as_read (if b then record (also_discovered found e) { was_joined = true } ∷ before else e ∷ discover
        edge found before) ≡ as_read (e ∷ before)
    by true rest = refl
    by false rest = ap (λ es. unseen e ∷ es) rest

-- a function that does not look at discoveries stays the same
kept-by : {A : Type 0} (f : List ReadStatement → A)
    → ((entries : List ReadStatement) → f (as_read entries) ≡ f entries)
    → (entries others : List ReadStatement) → as_read others ≡ as_read entries → f others ≡ f entries
kept-by f same entries others are = sym (same others) ∙ ap f are ∙ same entries

-- ---- values

-- one more statement
abbrev bounds_with : ReadStatement → Bounds → Bounds
bounds_with e before number name = option_or (binds_in number e (value_in before (scope_of e)) name)
    (before number name)

bounds-as_read : (entries : List ReadStatement) → bounds (as_read entries) ≡ bounds entries
unfolding bounds
bounds-as_read [] = refl
bounds-as_read (e ∷ before) = ap (bounds_with e) (bounds-as_read before)

pub bounds-same : (entries others : List ReadStatement) → as_read others ≡ as_read entries
    → bounds others ≡ bounds entries
bounds-same = kept-by bounds bounds-as_read

pub bounds-discover : (edge : ℕ) (found : Discovered) (entries : List ReadStatement)
    → bounds (discover edge found entries) ≡ bounds entries
bounds-discover edge found entries = bounds-same entries (discover edge found entries)
    (as_read-discover edge found entries)

pub value_after-discover : (edge : ℕ) (found : Discovered) (entries : List ReadStatement)
    → value_after (discover edge found entries) ≡ value_after entries
value_after-discover edge found entries = ap value_in (bounds-discover edge found entries)

-- ---- rules

rules_read-as_read : (entries : List ReadStatement) → rules_read (as_read entries) ≡ rules_read entries
rules_read-as_read entries = ap (λ rules. phony_rule ∷ rules)
    (gathered-map rule_given unseen (λ e before. by e before e.item) entries)
  where
    by : (e : ReadStatement) (before : List ReadStatement) (item : StatementModel)
        → rule_given (unseen e) (as_read before) item ≡ rule_given e before item
    by e before (RuleModel name lines) = refl
    by e before (BindingModel bound word) = refl
    by e before (PoolModel name lines) = refl
    by e before (BuildModel outputs rule inputs lines) = refl
    by e before (DefaultModel words) = refl
    by e before (IncludeModel word) = refl
    by e before (SubninjaModel word) = refl

pub rules_read-same : (entries others : List ReadStatement) → as_read others ≡ as_read entries
    → rules_read others ≡ rules_read entries
rules_read-same = kept-by rules_read rules_read-as_read

pub rules_read-discover : (edge : ℕ) (found : Discovered) (entries : List ReadStatement)
    → rules_read (discover edge found entries) ≡ rules_read entries
rules_read-discover edge found entries =
    rules_read-same entries (discover edge found entries) (as_read-discover edge found entries)

-- the rules that scopes themselves declare
abbrev pub Declared : Type 0
Declared = ℕ → List ℕ → Option ℕ

-- one more statement, after this many rules
abbrev declared_with : ReadStatement → (strings : List kept.RuleModel) → Declared → Declared
declared_with e strings own number name =
    option_or (if number == e.scope && declares e.item name then Some (length strings) else None)
    (own number name)

rules-as_read : (entries : List ReadStatement) → rules (as_read entries) ≡ rules entries
rules-as_read [] = refl
rules-as_read (e ∷ before) =
    ap (λ strings. declared_with e strings (rules (as_read before))) (rules_read-as_read before)
    ∙ ap (declared_with e (rules_read before)) (rules-as_read before)

pub rules-same : (entries others : List ReadStatement) → as_read others ≡ as_read entries
    → rules others ≡ rules entries
rules-same = kept-by rules rules-as_read

pub rules-discover : (edge : ℕ) (found : Discovered) (entries : List ReadStatement)
    → rules (discover edge found entries) ≡ rules entries
rules-discover edge found entries = rules-same entries (discover edge found entries)
    (as_read-discover edge found entries)

abbrev in_force_by : Declared → (scope name : List ℕ) → Option ℕ
in_force_by own scope name = if bytes_eq name phony then Some 0 else first_given (λ s. own s name) scope

pub rule_in_force-discover : (edge : ℕ) (found : Discovered) (entries : List ReadStatement)
    → rule_in_force (discover edge found entries) ≡ rule_in_force entries
rule_in_force-discover edge found entries = ap in_force_by (rules-discover edge found entries)

is_new-by : (some others : List ReadStatement) → rules others ≡ rules some
    → (number : ℕ) (item : StatementModel) → RuleIsNew some number item → RuleIsNew others number item
is_new-by some others same number (RuleModel name lines) new =
    ap (λ (own : Declared). is_declared (own number name.name) name.name) same ∙ new
is_new-by some others same number (BindingModel bound word) new = tt
is_new-by some others same number (PoolModel name lines) new = tt
is_new-by some others same number (BuildModel outputs rule inputs lines) new = tt
is_new-by some others same number (DefaultModel words) new = tt
is_new-by some others same number (IncludeModel word) new = tt
is_new-by some others same number (SubninjaModel word) new = tt

rules_new-as_read : (entries : List ReadStatement) → EachRuleIsNew entries → EachRuleIsNew (as_read entries)
rules_new-as_read [] new = tt
rules_new-as_read (e ∷ before) new = (
  is_new-by before (as_read before) (rules-as_read before) e.scope e.item
      new.0,
  rules_new-as_read before new.1,
)

rules_new-from_as_read : (entries : List ReadStatement) → EachRuleIsNew (as_read entries)
    → EachRuleIsNew entries
rules_new-from_as_read [] new = tt
rules_new-from_as_read (e ∷ before) new = (
  is_new-by (as_read before) before (sym (rules-as_read before)) e.scope e.item new.0,
  rules_new-from_as_read before new.1,
)

pub rules_new-discover : (edge : ℕ) (found : Discovered) (entries : List ReadStatement)
    → EachRuleIsNew entries → EachRuleIsNew (discover edge found entries)
rules_new-discover edge found entries new =
    rules_new-from_as_read (discover edge found entries)
    (subst EachRuleIsNew (sym (as_read-discover edge found entries)) (rules_new-as_read entries new))

pub rules_new-from_discover : (edge : ℕ) (found : Discovered) (entries : List ReadStatement)
    → EachRuleIsNew (discover edge found entries) → EachRuleIsNew entries
rules_new-from_discover edge found entries new =
    rules_new-from_as_read entries (subst EachRuleIsNew (as_read-discover edge found entries)
    (rules_new-as_read (discover edge found entries) new))

-- ---- pools, scopes and openings

pools-as_read : (entries : List ReadStatement) → pools (as_read entries) ≡ pools entries
pools-as_read = gathered-map pool_given unseen (λ e before. by e before e.item)
  where
    by : (e : ReadStatement) (before : List ReadStatement) (item : StatementModel)
        → pool_given (unseen e) (as_read before) item ≡ pool_given e before item
    by e before (PoolModel name lines) = refl
    by e before (BindingModel bound word) = refl
    by e before (RuleModel name lines) = refl
    by e before (BuildModel outputs rule inputs lines) = refl
    by e before (DefaultModel words) = refl
    by e before (IncludeModel word) = refl
    by e before (SubninjaModel word) = refl

pub pools-same : (entries others : List ReadStatement) → as_read others ≡ as_read entries
    → pools others ≡ pools entries
pools-same = kept-by pools pools-as_read

pub pools-discover : (edge : ℕ) (found : Discovered) (entries : List ReadStatement)
    → pools (discover edge found entries) ≡ pools entries
pools-discover edge found entries = pools-same entries (discover edge found entries)
    (as_read-discover edge found entries)

scopes_opened-as_read : (entries : List ReadStatement)
    → scopes_opened (as_read entries) ≡ scopes_opened entries
scopes_opened-as_read entries = ap (λ scopes. length scopes + 1)
    (gathered-map scope_given unseen (λ e before. by e before e.item) entries)
  where
    by : (e : ReadStatement) (before : List ReadStatement) (item : StatementModel)
        → scope_given (unseen e) (as_read before) item ≡ scope_given e before item
    by e before (SubninjaModel word) = refl
    by e before (BindingModel bound word) = refl
    by e before (RuleModel name lines) = refl
    by e before (PoolModel name lines) = refl
    by e before (BuildModel outputs rule inputs lines) = refl
    by e before (DefaultModel words) = refl
    by e before (IncludeModel word) = refl

pub scopes_opened-same : (entries others : List ReadStatement) → as_read others ≡ as_read entries
    → scopes_opened others ≡ scopes_opened entries
scopes_opened-same = kept-by scopes_opened scopes_opened-as_read

pub scopes_opened-discover : (edge : ℕ) (found : Discovered) (entries : List ReadStatement)
    → scopes_opened (discover edge found entries) ≡ scopes_opened entries
scopes_opened-discover edge found entries =
    scopes_opened-same entries (discover edge found entries) (as_read-discover edge found entries)

files_opened-as_read : (entries : List ReadStatement) → files_opened (as_read entries) ≡ files_opened entries
files_opened-as_read entries = ap (λ paths. length paths + 1)
    (gathered-map path_named unseen (λ e before. by e before e.item) entries)
  where
    by : (e : ReadStatement) (before : List ReadStatement) (item : StatementModel)
        → path_named (unseen e) (as_read before) item ≡ path_named e before item
    by e before (IncludeModel word) = ap (λ (b : Bounds). Some
        (expanded (value_in b (scope_of e)) word.parts)) (bounds-as_read before)
    by e before (SubninjaModel word) = ap (λ (b : Bounds). Some
        (expanded (value_in b (scope_of e)) word.parts)) (bounds-as_read before)
    by e before (BindingModel bound word) = refl
    by e before (RuleModel name lines) = refl
    by e before (PoolModel name lines) = refl
    by e before (BuildModel outputs rule inputs lines) = refl
    by e before (DefaultModel words) = refl

pub files_opened-same : (entries others : List ReadStatement) → as_read others ≡ as_read entries
    → files_opened others ≡ files_opened entries
files_opened-same = kept-by files_opened files_opened-as_read

pub files_opened-discover : (edge : ℕ) (found : Discovered) (entries : List ReadStatement)
    → files_opened (discover edge found entries) ≡ files_opened entries
files_opened-discover edge found entries =
    files_opened-same entries (discover edge found entries) (as_read-discover edge found entries)

-- ---- defaults

with_defaults-as_read : (e : ReadStatement) (before : List ReadStatement) (item : StatementModel)
    (paths : List (List ℕ)) → with_defaults (unseen e) (as_read before) item paths
    ≡ with_defaults e before item paths
with_defaults-as_read e before (DefaultModel words) paths =
    ap (λ (b : Bounds). paths ++ paths_given (value_in b (scope_of e)) words) (bounds-as_read before)
with_defaults-as_read e before (BindingModel bound word) paths = refl
with_defaults-as_read e before (RuleModel name lines) paths = refl
with_defaults-as_read e before (PoolModel name lines) paths = refl
with_defaults-as_read e before (BuildModel outputs rule inputs lines) paths = refl
with_defaults-as_read e before (IncludeModel word) paths = refl
with_defaults-as_read e before (SubninjaModel word) paths = refl

defaults_read-as_read : (entries : List ReadStatement)
    → defaults_read (as_read entries) ≡ defaults_read entries
unfolding defaults_read
defaults_read-as_read [] = refl
defaults_read-as_read (e ∷ before) =
    with_defaults-as_read e before e.item (defaults_read (as_read before))
    ∙ ap (with_defaults e before e.item) (defaults_read-as_read before)

pub defaults_read-same : (entries others : List ReadStatement) → as_read others ≡ as_read entries
    → defaults_read others ≡ defaults_read entries
defaults_read-same = kept-by defaults_read defaults_read-as_read

pub defaults_read-discover : (edge : ℕ) (found : Discovered) (entries : List ReadStatement)
    → defaults_read (discover edge found entries) ≡ defaults_read entries
defaults_read-discover edge found entries =
    defaults_read-same entries (discover edge found entries) (as_read-discover edge found entries)

-- ---- the names of an edge

-- by the rules, and by the bindings of scopes
abbrev names_by : List kept.RuleModel → Bounds → EdgeModel → LateNames
names_by strings b e = record {
  inputs = e.paths.explicit_inputs;
  outputs = e.paths.explicit_outputs;
  block = e.block;
  lines = lines_of_rule (slice_get strings e.rule);
  is_phony = e.paths.is_phony;
  file = value_in b (e.scope ∷ e.around);
}

pub names_of_edge-same : (entries others : List ReadStatement) → as_read others ≡ as_read entries
    → (e : EdgeModel) → names_of_edge others e ≡ names_of_edge entries e
names_of_edge-same entries others are e =
    ap (λ strings. names_by strings (bounds others) e) (rules_read-same entries others are)
    ∙ ap (λ (b : Bounds). names_by (rules_read entries) b e) (bounds-same entries others are)

pub names_of_edge-discover : (edge : ℕ) (found : Discovered) (entries : List ReadStatement) (e : EdgeModel)
    → names_of_edge (discover edge found entries) e ≡ names_of_edge entries e
names_of_edge-discover edge found entries =
    names_of_edge-same entries (discover edge found entries) (as_read-discover edge found entries)

-- ---- all names

pub names_stay : NamesStay
names_stay entries edge found = record {
  values = value_after-discover edge found entries;
  rules = rules_read-discover edge found entries;
  in_force = rule_in_force-discover edge found entries;
  pools_are = pools-discover edge found entries;
  defaults = defaults_read-discover edge found entries;
  names = names_of_edge-discover edge found entries;
}

-- The declarations held of the statements are held still.
pub declared-same : (held : DeclarationsModel) (entries others : List ReadStatement)
    → as_read others ≡ as_read entries → DeclaredBy held entries → DeclaredBy held others
declared-same held entries others are by = record {
  bound = λ number name. by.bound number name
      ∙ ap (λ (b : Bounds). b number name) (sym (bounds-same entries others are));
  declared = λ number name. by.declared number name
      ∙ ap (λ (own : Declared). own number name) (sym (rules-same entries others are));
  scopes = by.scopes ∙ sym (scopes_opened-same entries others are);
  rules = by.rules ∙ sym (rules_read-same entries others are);
  pools = by.pools ∙ sym (pools-same entries others are);
}

pub declared-discover : (held : DeclarationsModel) (edge : ℕ) (found : Discovered)
    (entries : List ReadStatement) → DeclaredBy held entries → DeclaredBy held (discover edge found entries)
declared-discover held edge found entries =
    declared-same held entries (discover edge found entries) (as_read-discover edge found entries)

-- ---- the statements themselves

length-as_read : (entries : List ReadStatement) → length (as_read entries) ≡ length entries
length-as_read [] = refl
length-as_read (e ∷ before) = ap suc (length-as_read before)

pub length-discover : (edge : ℕ) (found : Discovered) (entries : List ReadStatement)
    → length (discover edge found entries) ≡ length entries
length-discover edge found entries = kept-by length length-as_read entries (discover edge found entries)
    (as_read-discover edge found entries)

-- A property of each statement, whatever was discovered for it, stays true.
pub all-discover : (P : ReadStatement → Type 0)
    → ((e : ReadStatement) (joined : Bool) (d : Option Discovered) → P e
    → P (record e { was_joined = joined; discovered = d }))
    → (edge : ℕ) (found : Discovered) (entries : List ReadStatement) → AllByRecursion P entries
    → AllByRecursion P (discover edge found entries)
unfolding discover
all-discover P kept edge found [] all = tt
all-discover P kept edge found (e ∷ before) all =
    by (is_some (edge_given e before e.item) && length (edges_read before) == edge)
    (all-discover P kept edge found before all.1)
  where
    by : (b : Bool) → AllByRecursion P (discover edge found before)
        → AllByRecursion P (if b then record (also_discovered found e) { was_joined = true } ∷ before else e ∷
        discover edge found before)
    by true rest = (kept e true (Some (and_found e.discovered found)) all.0, all.1)
    by false rest = (all.0, rest)

-- A property of statements that also holds with discoveries for any edge holds with the additions of an
-- entry.
pub with_entry-by : (P : List ReadStatement → Type 0) (stated joined : List ReadStatement)
    (entry : EntryModel) → P joined
    → ((edge : ℕ) → P (discover edge (discovered_by entry) joined)) → P (with_entry stated joined entry)
with_entry-by P stated joined entry same more = by (edge_meant stated entry)
  where
    by : (edge : Option ℕ) → P (discover_for edge (discovered_by entry) joined)
    by (Some edge) = more edge
    by None = same
