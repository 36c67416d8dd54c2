-- The variables that are looked up for every edge, `pool` and `dyndep`.
use Rattle.std.specs.Prelude.{◌≡◌, ℕ, true, None, List}
use Rattle.nj_scope.specs.Declarations.{is_pool_or_dyndep}
use Rattle.nj_scope.specs.Scopes.{ScopeModel, bound_at}

-- no scope binds `pool` or `dyndep`
abbrev pub BindNeither : List ScopeModel → Type 0
BindNeither scopes = (n : ℕ) (name : List ℕ) → is_pool_or_dyndep name ≡ true → bound_at scopes n name ≡ None
