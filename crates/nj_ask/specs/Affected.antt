-- Which outputs are listed.
use Rattle.std.specs.Prelude.{◌≡◌, ◌↔◌, ℕ, Bool, ◌&&◌, ◌||◌, not, if◌then◌else◌, Option, List, [], ◌∷◌, ◌++◌, map, length, ◌==◌, Contains}
use Rattle.std.specs.Prelude.{nat_eq, find}
use Rattle.std.specs.List.{flat_map, starts_with}
use Rattle.std.specs.List.Sorted.{IsStrictlyIncreasing}
use Rattle.nj_graph.specs.Edges.{edge_at, is_among, outputs_of}
use Rattle.nj_graph.specs.Built.{detail_at}
use Rattle.nj_graph.specs.Graph.{GraphModel, edges_of, rule_name}

-- a path as a line
abbrev pub line : List ℕ → List ℕ
line path = path ++ 10 ∷ []

-- ---- the rules that are requested

-- the names of the rules of all scopes, `phony` first
abbrev pub rule_names : GraphModel → List (List ℕ)
rule_names g = map (λ rule. rule.name) g.declarations.rules

-- the first of the given names that no rule has
abbrev pub unknown_rule : GraphModel → (names : List (List ℕ)) → Option (List ℕ)
unknown_rule g names = find (λ name. not (is_among (rule_names g) name)) names

-- ---- the outputs that are listed

-- The requested outputs: the rules of their edges, any if empty; how their paths begin; and whether the outputs of phony edges are left
-- out.
pub record Asked : Type 0 where
  pub rules : List (List ℕ)
  pub prefix : List ℕ
  pub no_phony : Bool

-- a rule is among the given ones, or none are given
abbrev pub is_of_rules : (rules : List (List ℕ)) → (rule : List ℕ) → Bool
is_of_rules rules rule = length rules == 0 || is_among rules rule

-- outputs of an edge are requested
abbrev pub is_asked_for : GraphModel → Asked → (edge : ℕ) → Bool
is_asked_for g asked edge =
    is_of_rules asked.rules (rule_name g.declarations.rules (detail_at g.built.details edge).rule)
    && not (asked.no_phony && (edge_at (edges_of g) edge).is_phony)

-- a path as a line, if it begins with the prefix
abbrev pub line_of_output : (prefix : List ℕ) → (path : List ℕ) → List ℕ
line_of_output prefix path = if starts_with nat_eq path prefix then line path else []

-- the requested outputs of an edge
abbrev pub lines_of_outputs : GraphModel → Asked → (edge : ℕ) → List ℕ
lines_of_outputs g asked edge =
    if is_asked_for g asked edge then flat_map (line_of_output asked.prefix) (outputs_of (edge_at (edges_of g) edge)) else []

-- The text lists exactly the requested outputs of the edges that a change touches, by number.
pub record ListsOutputs (g : GraphModel) (asked : Asked) (IsTouched : (edge : ℕ) → Type 0) (text : List ℕ) : Type 0 where
  pub edges : List ℕ
  pub touched : (edge : ℕ) → Contains edges edge ↔ IsTouched edge
  pub rises : IsStrictlyIncreasing edges
  pub lines : text ≡ flat_map (lines_of_outputs g asked) edges
