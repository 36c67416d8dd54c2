-- The values of names, by the statements that were read.
use Rattle.std.proofs.Common.{arith, ◌≡◌, ℕ, false, ◌&&◌, ◌==◌, List, [], ◌∷◌}
use Rattle.std.proofs.Common.{◌++◌}
use Rattle.std.proofs.Common.{None, unwrap_or, bytes_eq, refl}
use Rattle.std.proofs.lemmas.Slice.Eq.{bytes_eq-Decides}
use Rattle.std.proofs.lemmas.Bool.{eq-eqb}
use Rattle.nj_manifest.specs.Statements.{StatementModel}
use Rattle.nj_scope.specs.Scopes.{value_in}
use Rattle.nj_scope.specs.Laws.{binds_name, NoneBinds, LastBindingCounts, OthersAreInherited}
use Rattle.nj_scope.specs.Laws.{OthersKeepTheirs}
use Rattle.nj_scope.specs.ReadingList.{ReadStatement, scope_of, binds, binds_in, bounds}

-- a statement that does not bind the name
not_binding : (value : List ℕ → List ℕ) (item : StatementModel) (name : List ℕ) → binds_name item name ≡ false
    → binds value item name ≡ None
not_binding value item name h = grind arith

none_here : (e : ReadStatement) (number : ℕ) (name : List ℕ) (value : List ℕ → List ℕ)
    → (number == e.scope && binds_name e.item name) ≡ false → binds_in number e value name ≡ None
none_here e number name value h = grind arith

-- statements that do not bind the name leave its value unchanged
passed : (after before : List ReadStatement) (number : ℕ) (name : List ℕ) → NoneBinds after number name
    → bounds (after ++ before) number name ≡ bounds before number name
unfolding bounds
passed [] before number name none = refl
passed (e ∷ after) before number name none = grind (
  arith,
  none_here e number name (value_in (bounds (after ++ before)) (scope_of e)) none.0,
  passed after before number name none.1,
)

pub last_counts : LastBindingCounts
unfolding bounds
last_counts after before e name word is none = grind (
  arith,
  unwrap_or,
  passed,
  bytes_eq,
  eq-eqb,
  bytes_eq-Decides,
)

unbound : (entries : List ReadStatement) (number : ℕ) (name : List ℕ) → NoneBinds entries number name
    → bounds entries number name ≡ None
unfolding bounds
unbound [] number name none = refl
unbound (e ∷ before) number name none = grind (
  arith,
  none_here e number name (value_in (bounds before) (scope_of e)) none.0,
  unbound before number name none.1,
)

pub inherited : OthersAreInherited
inherited entries number around name none = grind (arith, unwrap_or, unbound)

pub kept : OthersKeepTheirs
unfolding bounds
kept e before number name apart = grind arith
