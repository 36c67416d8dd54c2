-- How a graph represents the rules that it lists.
use Rattle.std.specs.List.{AllByRecursion}
use Rattle.std.specs.Prelude.{◌≡◌, ℕ, ◌<◌, Some, None, List, map, length, slice_get}
use Rattle.nj_scope.specs.Declarations.{DeclarationsModel}
use Rattle.nj_scope.specs.Rules.{RuleModel}
use Rattle.nj_scope.specs.Scopes.{parent_at}
use Rattle.nj_statements.specs.Built.{BuiltModel, EdgeDetail}
use Rattle.nj_graph.specs.Graph.{main_rules_of}

-- their numbers, in the order in which they are listed
abbrev pub HasMainRules : List RuleModel → (numbers : List ℕ) → Type 0
HasMainRules rules numbers = map (slice_get rules) numbers ≡ map (λ r. Some r) (main_rules_of rules)

-- the scope and the rule of an edge exist
abbrev pub IsKnown : DeclarationsModel → EdgeDetail → Type 0
IsKnown declarations d = (d.scope < length declarations.scopes) × (d.rule < length declarations.rules)

-- the facts about the fields of a graph
pub record IsGraph (declarations : DeclarationsModel) (built : BuiltModel) (numbers : List ℕ) : Type 0 where
  pub listed : HasMainRules declarations.rules numbers
  pub outermost : parent_at declarations.scopes 0 ≡ None
  pub count : length built.details ≡ length built.graph.edges
  pub known : AllByRecursion (IsKnown declarations) built.details
