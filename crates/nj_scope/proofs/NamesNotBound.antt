-- Names that no scope binds.
use Rattle.std.proofs.Common.{arith, ◌≡◌, ℕ, true, List, [], ◌∷◌, Option, None, unwrap_or, refl, ap}
use Rattle.nj_scope.specs.Scopes.{ScopeModel, first_given, value_in, bound_at}
use Rattle.nj_scope.specs.Declarations.{is_pool_or_dyndep}
use Rattle.nj_scope.specs.Inside.PoolOrDyndep.{BindNeither}

none-given : {X : Type 0} (own : ℕ → Option X) → ((n : ℕ) → own n ≡ None) → (scope : List ℕ)
    → first_given own scope ≡ None
none-given own none [] = refl
none-given own none (s ∷ around) = grind (arith, none-given own none around)

pub none-bound : (scopes : List ScopeModel) (scope name : List ℕ) → BindNeither scopes
    → is_pool_or_dyndep name ≡ true → None ≡ first_given (λ s. bound_at scopes s name) scope
none-bound scopes scope name neither h = grind (arith, none-given)

pub value-empty : (scopes : List ScopeModel) (scope name : List ℕ) → BindNeither scopes
    → is_pool_or_dyndep name ≡ true → [] ≡ value_in (bound_at scopes) scope name
value-empty scopes scope name neither h = ap (λ o. unwrap_or o []) (none-bound scopes scope name neither h)
