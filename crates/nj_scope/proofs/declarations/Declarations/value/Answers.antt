use Rattle.std.proofs.Common.{◌∷◌, ◌∙◌, subst, sym}
use Rattle.nj_scope.specs.Scopes.{IsScope, parent_at}
use Rattle.nj_scope.specs.Declarations.{DeclaredBy}
use Rattle.nj_scope.proofs.DeclarationLemmas.{name-listed}
use Rattle.nj_scope.proofs.NamesNotBound.{value-empty}
use Rattle.nj_scope.proofs.declarations.Declarations.value.Goals as goal

pub returns : goal.returns
returns c = λ entries around by scope.
    c.value.ensures (c.args.scope.0 ∷ around)
    (subst (λ held. IsScope (parent_at held.scopes) c.args.scope.0 (c.args.scope.0 ∷ around))
    (sym c.self.view_is) scope)
    ∙ name-listed (record {
      scopes = c.self.inside.scopes;
      rules = c.self.inside.rules.items;
      pools =
          c.self.inside.pools;
    }) entries (subst (λ held. DeclaredBy held entries) (sym c.self.view_is) by)
    (c.args.scope.0 ∷ around) c.args.name.now

pub returns-then-is_pool_or_dyndep : goal.returns-then-is_pool_or_dyndep
returns-then-is_pool_or_dyndep c = λ entries around by scope.
    value-empty c.self.inside.scopes (c.args.scope.0 ∷ around) c.args.name.now
    (c.self.invariant c.if-not-self.true) (sym c.is_pool_or_dyndep.ensures ∙ c.if-is_pool_or_dyndep.true)
    ∙ name-listed (record {
      scopes = c.self.inside.scopes;
      rules = c.self.inside.rules.items;
      pools =
          c.self.inside.pools;
    }) entries (subst (λ held. DeclaredBy held entries) (sym c.self.view_is) by)
    (c.args.scope.0 ∷ around) c.args.name.now
