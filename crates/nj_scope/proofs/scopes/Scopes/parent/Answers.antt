use Rattle.std.proofs.Common.{◌<◌, IfSome, length, subst, sym}
use Rattle.nj_scope.proofs.ScopeLemmas.{at_scope-text, if_some-of_map}
use Rattle.nj_scope.proofs.scopes.Scopes.parent.Goals as goal

pub returns-clause-earlier : goal.returns-clause-earlier
returns-clause-earlier c =
    if_some-of_map (λ p. p.0) (λ p. p < c.args.scope.0) c.index.result.now.parent
    (subst (λ o. IfSome o (λ p. p < c.args.scope.0))
    (at_scope-text c.self.inside.scopes.items c.args.scope.0 c.index.result.now c.index.result.now
    (subst (λ ss. c.args.scope.0 < length ss) (sym c.self.view_is) c.requires) c.index.ensures
    (λ s. s.parent)) (c.self.invariant c.args.scope.0))
