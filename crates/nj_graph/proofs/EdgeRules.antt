-- The rules and scopes of the edges of statements without a fault.
use Rattle.std.proofs.Common.{◌≡◌, ℕ, ◌==◌, not, unwrap_or, is_some, Option, Some, None, List, [], ◌∷◌, ◌++◌}
use Rattle.std.proofs.Common.{map, slice_get, refl, sym, ap, ◌∙◌}
use Rattle.nj_scope.proofs.Gathering.{with_given}
use Rattle.std.specs.Bool.{then_some}
use Rattle.std.specs.Option.{option_or}
use Rattle.std.specs.List.{AllByRecursion}
use Rattle.std.proofs.lemmas.Option.{slice_get_within}
use Rattle.nj_manifest.specs.LineSteps.{NameModel}
use Rattle.nj_manifest.specs.Statements.{StatementModel, BindingModel, RuleModel, PoolModel, BuildModel}
use Rattle.nj_manifest.specs.Statements.{DefaultModel, IncludeModel, SubninjaModel, LineModel, OutputsModel}
use Rattle.nj_manifest.specs.Statements.{InputsModel}
use Rattle.nj_scope.specs.Rules as kept
use Rattle.nj_scope.specs.Scopes.{ScopeModel}
use Rattle.nj_scope.specs.Declarations.{DeclarationsModel}
use Rattle.nj_scope.specs.ReadingList.{Discovered, ReadStatement, scope_of, rule_in_force, rules_read}
use Rattle.nj_scope.proofs.InForce.{in_force}
use Rattle.nj_faults.specs.declared.fault.GraphFault.{GraphFault}
use Rattle.nj_faults.specs.declared.fault.Cause.TheVariants.{UnknownRule}
use Rattle.nj_faults.specs.Faults.{fault_at}
use Rattle.nj_edges.specs.Edges.{EdgePaths}
use Rattle.nj_statements.specs.EdgeList.{EdgeModel, line_values, edge_paths, stated_paths, with_discovered}
use Rattle.nj_statements.specs.EdgeList.{edge_of_build, edges_read, edge_given}
use Rattle.nj_statements.specs.BuildFaults.{unknown_rule}
use Rattle.nj_statements.specs.Built.{detail_of}
use Rattle.nj_statements.proofs.Lists.{get-longer}
use Rattle.nj_statements.proofs.LateLemmas.{is-phony, kept-phony}
use Rattle.nj_graph.specs.Graph.{IsOpenScope, HasRule}
use Rattle.nj_graph.specs.Inside.GraphHeld.{IsKnown}
use Rattle.nj_graph.specs.Laws.{Faultless}
use Rattle.nj_graph.specs.Reading.{item_fault}
use Rattle.nj_graph.proofs.OpenScopes.{AreOpen}

-- ---- all of a list

module _ {X : Type 0} where
  all-and : (P : X → Type 0) (x : X) (xs : List X) → AllByRecursion P xs → P x
      → AllByRecursion P (xs ++ x ∷ [])
  all-and P x [] all here = (here, tt)
  all-and P x (y ∷ ys) all here = (all.0, all-and P x ys all.1 here)

  all-map : (P Q : X → Type 0) → ((x : X) → P x → Q x) → (xs : List X) → AllByRecursion P xs
      → AllByRecursion Q xs
  all-map P Q to [] all = tt
  all-map P Q to (x ∷ xs) all = (to x all.0, all-map P Q to xs all.1)

-- ---- rules

has-longer : (rules more : List kept.RuleModel) (e : EdgeModel) → HasRule rules e → HasRule (rules ++ more) e
has-longer rules more e has = record {
  rule = has.rule;
  rule_is =
      get-longer rules more e.rule has.rule has.rule_is;
  phony_is = has.phony_is;
}

first-none : (first others : Option GraphFault) → option_or first others ≡ None → first ≡ None
first-none (Some first) others h = h
first-none None others h = refl

-- files that were discovered change no rule
discovered-phony : (found : Option Discovered) (paths : EdgePaths)
    → (with_discovered found paths).is_phony ≡ paths.is_phony
discovered-phony None paths = refl
discovered-phony (Some found) paths = refl

module _ (e : ReadStatement) (before : List ReadStatement) (outputs : OutputsModel) (rule : NameModel)
    (inputs : InputsModel) (lines : List LineModel) where
  abbrev edge : EdgeModel
  edge = edge_of_build e before outputs rule inputs lines

  -- a rule that is known
  by-rule : (found : Option ℕ) → rule_in_force before (scope_of e) rule.name ≡ found
      → then_some (not (is_some found)) (fault_at e.file rule.spot (UnknownRule rule.name)) ≡ None
      → HasRule (rules_read before) edge
  by-rule None is h = absurd cc
  by-rule (Some number) is h =
      let (text, at, its, others) = in_force before (scope_of e) rule.name number is in
      let same : edge.rule ≡ number = ap (λ o. unwrap_or o 0) is in
      let stated = stated_paths (line_values e before lines) outputs inputs (edge.rule == 0) in
      record {
        rule = text;
        rule_is = ap (slice_get (rules_read before)) same ∙ at;
        phony_is = is-phony before (scope_of e) rule.name number text is at ∙ ap (λ n. n == 0) (sym same)
            ∙ sym (kept-phony stated) ∙ sym (discovered-phony e.discovered (edge_paths stated));
      }

  new-rule : item_fault e before (BuildModel outputs rule inputs lines) ≡ None
      → HasRule (rules_read before) edge
  new-rule none = by-rule (rule_in_force before (scope_of e) rule.name) refl
      (first-none (unknown_rule e before rule) _ none)

pub edges-have : (entries : List ReadStatement) → Faultless entries
    → AllByRecursion (HasRule (rules_read entries)) (edges_read entries)
unfolding edges_read
edges-have [] faultless = tt
edges-have (e ∷ before) faultless = by e.item faultless.0 (edges-have before faultless.1)
  where
    by : (item : StatementModel) → item_fault e before item ≡ None
        → AllByRecursion (HasRule (rules_read before)) (edges_read before)
        → AllByRecursion (HasRule (rules_read (record e { item = item } ∷ before)))
        (with_given (edges_read before) (edge_given e before item))
    by (BindingModel name value) none all = all
    by (RuleModel name lines) none all = all-map (HasRule (rules_read before))
        (HasRule (rules_read before ++ _)) (λ x. has-longer (rules_read before) _ x) (edges_read before) all
    by (PoolModel name lines) none all = all
    by (BuildModel outputs rule inputs lines) none all =
        all-and (HasRule (rules_read before)) (edge_of_build e before outputs rule inputs lines)
        (edges_read before) all (new-rule e before outputs rule inputs lines none)
    by (DefaultModel words) none all = all
    by (IncludeModel word) none all = all
    by (SubninjaModel word) none all = all

-- ---- scopes

abbrev InOpen : List ScopeModel → EdgeModel → Type 0
InOpen scopes x = IsOpenScope scopes x.scope x.around

pub edges-open : (scopes : List ScopeModel) (entries : List ReadStatement) → AreOpen scopes entries
    → AllByRecursion (λ x. IsOpenScope scopes x.scope x.around) (edges_read entries)
unfolding edges_read
edges-open scopes [] opened = tt
edges-open scopes (e ∷ before) opened = by e.item (edges-open scopes before opened.1)
  where
    by : (item : StatementModel) → AllByRecursion (InOpen scopes) (edges_read before)
        → AllByRecursion (InOpen scopes) (with_given (edges_read before) (edge_given e before item))
    by (BindingModel name value) all = all
    by (RuleModel name lines) all = all
    by (PoolModel name lines) all = all
    by (BuildModel outputs rule inputs lines) all =
        all-and (InOpen scopes) (edge_of_build e before outputs rule inputs lines) (edges_read before) all
        opened.0
    by (DefaultModel words) all = all
    by (IncludeModel word) all = all
    by (SubninjaModel word) all = all

-- ---- the scope and the rule of an edge exist

pub known-details : (declarations : DeclarationsModel) (edges : List EdgeModel)
    → AllByRecursion (λ x. IsOpenScope declarations.scopes x.scope x.around) edges
    → AllByRecursion (HasRule declarations.rules) edges
    → AllByRecursion (IsKnown declarations) (map detail_of edges)
known-details declarations [] opened rules = tt
known-details declarations (x ∷ edges) opened rules = (
  (opened.0.there.0, slice_get_within declarations.rules x.rule rules.0.rule rules.0.rule_is),
  known-details declarations edges opened.1 rules.1,
)
