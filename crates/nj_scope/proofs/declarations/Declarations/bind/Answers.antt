use Rattle.std.proofs.Common.{false, None, ◌∷◌, ◌++◌, ◌∙◌, ap, subst, sym, refl}
use Rattle.nj_text.specs.Words.{word_model}
use Rattle.nj_manifest.specs.Statements.{BindingModel}
use Rattle.nj_scope.specs.Scopes.{IsScope, value_in, expanded, parent_at, bound_at}
use Rattle.nj_scope.specs.Declarations.{DeclaredBy}
use Rattle.nj_scope.proofs.DeclarationLemmas.{with-binding, at_ok, at_err}
use Rattle.nj_scope.proofs.declarations.Declarations.bind.Goals as goal

pub returns-clause-bound : goal.returns-clause-bound
returns-clause-bound c = λ around scope. at_ok c.bind.result c.bind.ensures.bound
    (λ bound entries file spot depth by.
    with-binding (record {
      scopes = c.self.inside.scopes;
      rules = c.self.inside.rules.items;
      pools =
          c.self.inside.pools;
    })
    (record { scopes = c.bind.new.self; rules = c.self.inside.rules.items; pools = c.self.inside.pools })
    entries (record {
      file = file;
      spot = spot;
      depth = depth;
      scope = c.args.scope.0;
      around = around;
      item =
          BindingModel c.args.name.now (word_model c.args.value.now);
      was_joined = false;
      discovered = None;
    })
    c.args.name.now c.in_ok-value.value.items (word_model c.args.value.now)
    (subst (λ held. DeclaredBy held entries) (sym c.self.view_is) by)
    (c.in_ok-value.ensures.items ∙ c.deref.ensures.value
    ∙ c.in_ok-append_expanded.ensures (c.args.scope.0 ∷ around)
    (subst (λ held. IsScope (parent_at held.scopes) c.args.scope.0 (c.args.scope.0 ∷ around))
    (sym c.self.view_is) scope)
    ∙ ap (λ front. front ++ expanded (value_in (bound_at c.self.inside.scopes) (c.args.scope.0 ∷ around))
    (word_model c.args.value.now).parts) c.clear.ensures.items)
    bound c.bind.ensures.rules c.bind.ensures.count refl refl)

pub returns-clause-refused : goal.returns-clause-refused
returns-clause-refused c = at_err c.bind.result c.bind.ensures.refused (λ same entries by.
    let held : DeclaredBy (record {
      scopes = c.self.inside.scopes;
      rules = c.self.inside.rules.items;
      pools =
          c.self.inside.pools;
    }) entries = subst (λ held. DeclaredBy held entries) (sym c.self.view_is) by in
    record {
      bound = λ n x. same n x ∙ held.bound n x;
      declared = λ n x. c.bind.ensures.rules n x ∙ held.declared n x;
      scopes = c.bind.ensures.count ∙ held.scopes;
      rules = held.rules;
      pools = held.pools;
    })
