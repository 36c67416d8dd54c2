-- The graph of a run, and the rules that it lists.
use Rattle.std.specs.Prelude.{◌≡◌, ◌↔◌, ℕ, ◌<◌, Bool, ◌&&◌, if◌then◌else◌, Option, Some, option_map, unwrap_or, is_some, List, [], ◌∷◌, map, length, slice_get, slice_index_or}
use Rattle.std.specs.Prelude.{codes, bytes_eq}
use Rattle.std.specs.List.{AllByRecursion, Contains, IsDistinct}
use Rattle.std.specs.List.Sorted.{IsStrictlySortedBy}
use Rattle.std.specs.Cmp.Lexicographic.{slice_cmp}
use Rattle.std.specs.Ordering.{is_lt, nat_cmp}
use Rattle.nj_text.specs.Words.{PartModel}
use Rattle.nj_scope.specs.Declarations.{DeclarationsModel, DeclaredBy}
use Rattle.nj_scope.specs.ReadingList.{ReadStatement, rules_read}
use Rattle.nj_scope.specs.Late.{parts_written}
use Rattle.nj_scope.specs.Rules.{RuleModel, phony, phony_rule, rules_in, rule_names, given}
use Rattle.nj_scope.specs.Scopes.{IsScope, ScopeModel, parent_at}
use Rattle.nj_cycles.specs.Cycles.{IsAcyclic}
use Rattle.nj_edges.specs.Edges.{EdgePaths}
use Rattle.nj_edges.specs.Needs.{makers_of_inputs}
use Rattle.nj_edge_env.specs.LateStrings.{asked_text}
use Rattle.nj_statements.specs.EdgeList.{EdgeModel, edges_read, names_of_edge, restats_read, restat_at}
use Rattle.nj_statements.specs.Built.{BuiltModel, IsBuiltOf, EdgeDetail, detail_at, detail_of}
use Rattle.nj_graph.specs.Origins.{OriginsModel, origins_read, main_of}

-- The declarations of its files' statements, after all reading, their edges and defaults, and where rules, pools and files come from.
pub record GraphModel : Type 0 where
  pub declarations : DeclarationsModel
  pub built : BuiltModel
  pub origins : OriginsModel

-- its edges, by their paths
abbrev pub edges_of : GraphModel → List EdgePaths
edges_of g = g.built.graph.edges

-- the paths of its files, by their numbers
abbrev pub files_of : GraphModel → List (List ℕ)
files_of g = g.built.graph.files

-- a scope with its enclosing scopes, which were all opened
pub record IsOpenScope (scopes : List ScopeModel) (number : ℕ) (around : List ℕ) : Type 0 where
  pub within : IsScope (parent_at scopes) number (number ∷ around)
  pub there : AllByRecursion (λ n. n < length scopes) (number ∷ around)

-- an edge has one of the given rules, and is phony if its rule is called `phony`
pub record HasRule (rules : List RuleModel) (e : EdgeModel) : Type 0 where
  pub rule : RuleModel
  pub rule_is : slice_get rules e.rule ≡ Some rule
  pub phony_is : bytes_eq rule.name phony ≡ e.paths.is_phony

-- The graph is that of the statements: their declarations, in their scopes, and their edges and defaults; each edge has
-- a rule, and no edge needs itself by a chain. Rules, pools and files come from where the statements are, after the
-- main file was opened.
pub record IsGraphOf (g : GraphModel) (entries : List ReadStatement) : Type 0 where
  pub declares : DeclaredBy g.declarations entries
  pub scopes : AllByRecursion (λ e. IsOpenScope g.declarations.scopes e.scope e.around) entries
  pub built : IsBuiltOf g.built entries
  pub rules : AllByRecursion (HasRule g.declarations.rules) (edges_read entries)
  pub acyclic : IsAcyclic (makers_of_inputs (edges_of g)) (length (edges_of g))
  pub origins : g.origins ≡ origins_read (main_of g.origins) entries

-- The property holds of the graph by any statements whose graph it is.
abbrev pub OfStatements : GraphModel → (List ReadStatement → Type 0) → Type 0
OfStatements g holds = (entries : List ReadStatement) → IsGraphOf g entries → holds entries

-- ---- late strings

-- A dyndep file that binds `restat` for an edge gives the variable the value 1, whatever the edge's statement and rule
-- bind to it.
abbrev pub is_dyndep_restat : List ReadStatement → (number : ℕ) → (asked : List ℕ) → Bool
is_dyndep_restat entries number asked = bytes_eq asked (codes "restat") && restat_at (restats_read entries) number

-- The value of a variable for the edge with the given number where its rule is used, after all statements; past the last edge it is empty.
abbrev pub late_text_of : List ReadStatement → (number : ℕ) → (asked : List ℕ) → List ℕ
late_text_of entries number asked =
    if is_dyndep_restat entries number asked then codes "1" else
    unwrap_or (option_map (λ e. asked_text (names_of_edge entries e) asked) (slice_get (edges_read entries) number)) []

-- ---- the rule of an edge

-- the name of the rule with the given number, if any
abbrev pub rule_name : List RuleModel → (number : ℕ) → List ℕ
rule_name rules number = unwrap_or (option_map (λ r. r.name) (slice_get rules number)) []

-- the name of the rule of an edge, which is the rule in force before its statement
abbrev pub rule_name_of : List ReadStatement → EdgeModel → List ℕ
rule_name_of entries e = rule_name (rules_read entries) e.rule

-- the value for the edge with the given number; past the last edge it is empty
abbrev pub rule_name_at : List ReadStatement → (number : ℕ) → List ℕ
rule_name_at entries number = unwrap_or (option_map (rule_name_of entries) (slice_get (edges_read entries) number)) []

-- ---- the numbers of the rule and the scope of an edge

-- the record of the edge with the given number besides its paths and its block
abbrev pub detail_stated : List ReadStatement → (number : ℕ) → EdgeDetail
detail_stated entries number = detail_at (map detail_of (edges_read entries)) number

-- the number of the rule of an edge
abbrev pub rule_number_at : List ReadStatement → (number : ℕ) → ℕ
rule_number_at entries number = (detail_stated entries number).rule

-- the number of the scope of an edge
abbrev pub scope_number_at : List ReadStatement → (number : ℕ) → ℕ
scope_number_at entries number = (detail_stated entries number).scope

-- ---- the rules that are listed

-- inserts an element into a sorted list: after the elements that come before it, and ahead of the others
unfoldable pub insert_by : {X : Type 0} → (comes_before : X → X → Bool) → X → List X → List X
insert_by comes_before x [] = x ∷ []
insert_by comes_before x (y ∷ ys) = if comes_before y x then y ∷ insert_by comes_before x ys else x ∷ y ∷ ys

-- a list, sorted; elements that tie keep their order
unfoldable pub sorted_by : {X : Type 0} → (comes_before : X → X → Bool) → List X → List X
sorted_by comes_before [] = []
sorted_by comes_before (x ∷ xs) = insert_by comes_before x (sorted_by comes_before xs)

-- whether a name comes before another, in byte order
abbrev pub is_before : (name other : List ℕ) → Bool
is_before name other = is_lt (slice_cmp nat_cmp name other)

-- The rules of the main file's scope, by name, including `phony` and the rules of included files, but not those of
-- subninja files.
unfoldable pub main_rules_of : List RuleModel → List RuleModel
main_rules_of rules = sorted_by (λ r s. is_before r.name s.name) (rules_in rules 0)

-- the rules of the main file's scope
abbrev pub main_rules : GraphModel → List RuleModel
main_rules g = main_rules_of g.declarations.rules

-- the rule at the given index
abbrev pub main_rule_at : GraphModel → ℕ → RuleModel
main_rule_at g index = slice_index_or (main_rules g) index phony_rule

-- ---- its description

-- the value of the last `description` line, if any
abbrev pub description : RuleModel → Option (List PartModel)
description r = given r.lines (codes "description")

-- a rule has a description
abbrev pub has_description : RuleModel → Bool
has_description r = is_some (description r)

-- its text, not expanded; empty without a `description` line
abbrev pub description_text : RuleModel → List ℕ
description_text r = unwrap_or (option_map parts_written (description r)) []

-- ---- laws

-- If the rules of the main scope have distinct names, the names are in strictly ascending byte order, without duplicates.
abbrev pub NamesRise : Type 0
NamesRise = (rules : List RuleModel) → IsDistinct bytes_eq (rule_names rules 0)
    → IsStrictlySortedBy (slice_cmp nat_cmp) (map (λ r. r.name) (main_rules_of rules))

-- A rule is listed exactly when it belongs to the main scope.
abbrev pub ListsMainRules : Type 0
ListsMainRules = (rules : List RuleModel) (rule : RuleModel)
    → Contains (main_rules_of rules) rule ↔ ((rule.scope ≡ 0) × Contains rules rule)
