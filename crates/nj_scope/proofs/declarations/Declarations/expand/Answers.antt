use Rattle.std.proofs.Common.{◌∷◌, ◌∙◌, subst, sym}
use Rattle.nj_text.specs.Words.{word_model}
use Rattle.nj_scope.specs.Scopes.{IsScope, parent_at}
use Rattle.nj_scope.specs.Declarations.{DeclaredBy}
use Rattle.nj_scope.proofs.DeclarationLemmas.{value-listed, if_ok}
use Rattle.nj_scope.proofs.declarations.Declarations.expand.Goals as goal

pub returns : goal.returns
returns c = λ entries around by scope.
    if_ok c.expand.result (c.expand.ensures (c.args.scope.0 ∷ around)
    (subst (λ held. IsScope (parent_at held.scopes) c.args.scope.0 (c.args.scope.0 ∷ around))
    (sym c.self.view_is) scope)) (λ v is.
    is ∙ value-listed (record {
      scopes = c.self.inside.scopes;
      rules = c.self.inside.rules.items;
      pools =
          c.self.inside.pools;
    }) entries (subst (λ held. DeclaredBy held entries) (sym c.self.view_is) by)
    (c.args.scope.0 ∷ around) (word_model c.args.word.now).parts)
