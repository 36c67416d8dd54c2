use Rattle.std.proofs.Common.{option_map}
use Rattle.nj_scope.specs.Scopes.{bound_at}
use Rattle.nj_scope.proofs.ScopeWalk.{StillLooks, scopes_left}
use Rattle.nj_scope.proofs.scopes.Scopes.value_if_bound.Given as goal

abbrev pub invariant-scopes : goal.invariant-scopes
invariant-scopes l = StillLooks (λ s. bound_at l.self s l.name) l.self l.fn.scope.0
    (option_map (λ s. s.0) l.next)

abbrev pub decreases-scopes : goal.decreases-scopes
decreases-scopes l = scopes_left (option_map (λ s. s.0) l.next)
