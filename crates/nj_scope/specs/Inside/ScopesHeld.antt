-- How scopes are held.
use Rattle.std.specs.Prelude.{ℕ, ◌<◌, List, map, option_map, IfSome}
use Rattle.std.specs.Global.{Vec}
use Rattle.nj_scope.specs.declared.scopes.Scope.{Scope}
use Rattle.nj_scope.specs.Scopes.{ScopeModel, parent_at}

abbrev pub values_text : List (Vec ℕ × Vec ℕ) → List (List ℕ × List ℕ)
values_text entries = map (λ e. (e.0.items, e.1.items)) entries

abbrev pub scope_model : Scope → ScopeModel
scope_model s = record {
  parent = option_map (λ p. p.0) s.parent;
  values = values_text s.values.entries;
  rules = map (λ e. (e.0.items, e.1.0)) s.rules.entries;
}

-- each scope was opened after the one around it
abbrev pub ParentsAreEarlier : List ScopeModel → Type 0
ParentsAreEarlier scopes = (n : ℕ) → IfSome (parent_at scopes n) (λ p. p < n)
