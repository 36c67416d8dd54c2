use Rattle.std.proofs.Common.{ℕ, ◌<◌, ◌∷◌, Option, length, IfSome, subst, sym}
use Rattle.nj_scope.specs.Scopes.{IsScope, parent_at}
use Rattle.nj_scope.specs.Declarations.{DeclaredBy}
use Rattle.nj_scope.proofs.InForce.{phony-within, nearest-within}
use Rattle.nj_scope.proofs.ScopeLemmas.{if_some-of_map}
use Rattle.nj_scope.proofs.declarations.Declarations.rule.Goals as goal

pub returns-then-eq-clause-within : goal.returns-then-eq-clause-within
returns-then-eq-clause-within c = λ entries around by scope. phony-within c.args.self.now entries by

pub returns-clause-within : goal.returns-clause-within
returns-clause-within c = λ entries around by scope.
    subst (λ held. IfSome c.rule.result (λ r. r.0 < length held.rules)) c.self.view_is
    (if_some-of_map (λ r. r.0) (λ n. n < length c.self.inside.rules.items) c.rule.result
    (subst (λ (o : Option ℕ). IfSome o (λ n. n < length c.self.inside.rules.items))
    (sym (c.rule.ensures (c.args.scope.0 ∷ around)
    (subst (λ held. IsScope (parent_at held.scopes) c.args.scope.0 (c.args.scope.0 ∷ around))
    (sym c.self.view_is) scope)))
    (nearest-within (record {
      scopes = c.self.inside.scopes;
      rules = c.self.inside.rules.items;
      pools =
          c.self.inside.pools;
    }) entries (subst (λ held. DeclaredBy held entries) (sym c.self.view_is) by)
    (c.args.scope.0 ∷ around) c.args.name.now)))
