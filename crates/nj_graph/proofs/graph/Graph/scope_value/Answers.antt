use Rattle.std.proofs.Common.{◌≡◌, [], ◌∷◌, ap, sym, subst}
use Rattle.std.specs.Prelude.{option_copied}
use Rattle.nj_scope.specs.ReadingList.{value_if_bound}
use Rattle.nj_scope.specs.Scopes.{IsScope, outermost, parent_at}
use Rattle.nj_scope.specs.Declarations.{DeclarationsModel, DeclaredBy}
use Rattle.nj_graph.specs.Graph.{GraphModel, IsOpenScope}
use Rattle.nj_graph.proofs.EdgeStrings.{known-at}
use Rattle.nj_graph.proofs.graph.Graph.scope_value.Goals as goal

pub returns-clause-main : goal.returns-clause-main
returns-clause-main c = λ entries is same.
    let inside : c.self.inside.declared.declarations ≡ c.args.self.now.declarations =
    ap (λ (x : GraphModel). x.declarations) c.self.view_is in
    subst (λ n. option_copied c.value_if_bound.result ≡ value_if_bound entries (n ∷ []) c.args.name.now) same
    (c.value_if_bound.ensures entries [] (subst (λ (d : DeclarationsModel). DeclaredBy d entries) (sym inside)
    is.declares)
    (subst (λ n. IsScope (parent_at c.self.inside.declared.declarations.scopes) n (n ∷ [])) (sym same)
    (outermost c.self.invariant.outermost)))

pub returns-clause-stated : goal.returns-clause-stated
returns-clause-stated c = λ entries e is has same.
    let inside : c.self.inside.declared.declarations ≡ c.args.self.now.declarations =
    ap (λ (x : GraphModel). x.declarations) c.self.view_is in
    let there : IsOpenScope c.args.self.now.declarations.scopes e.scope e.around =
    subst (λ x. IsOpenScope c.args.self.now.declarations.scopes x.scope x.around) has.2
    (known-at (λ x. IsOpenScope c.args.self.now.declarations.scopes x.scope x.around) entries has.0 e
    has.1 is.scopes) in
    subst (λ n. option_copied c.value_if_bound.result ≡ value_if_bound entries (n ∷ e.around) c.args.name.now)
    (sym same)
    (c.value_if_bound.ensures entries e.around
    (subst (λ (d : DeclarationsModel). DeclaredBy d entries) (sym inside) is.declares)
    (subst (λ (d : DeclarationsModel). IsScope (parent_at d.scopes) c.args.scope.0
    (c.args.scope.0 ∷ e.around)) (sym inside)
    (subst (λ n. IsScope (parent_at c.args.self.now.declarations.scopes) n (n ∷ e.around)) same
    there.within)))

pub returns-clause-within : goal.returns-clause-within
returns-clause-within c = λ entries around is scope.
    let inside : c.self.inside.declared.declarations ≡ c.args.self.now.declarations =
    ap (λ (x : GraphModel). x.declarations) c.self.view_is in
    c.value_if_bound.ensures entries around
    (subst (λ (d : DeclarationsModel). DeclaredBy d entries) (sym inside) is.declares)
    (subst (λ (d : DeclarationsModel). IsScope (parent_at d.scopes) c.args.scope.0 (c.args.scope.0 ∷ around))
    (sym inside) scope)
