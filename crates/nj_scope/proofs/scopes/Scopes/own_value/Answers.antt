use Rattle.std.proofs.Common.{◌<◌, Some, option_map, length, ap, ◌∙◌, subst, sym, bytes_eq}
use Rattle.std.specs.Map.{lookup}
use Rattle.nj_scope.specs.Scopes.{bound_at}
use Rattle.nj_scope.proofs.ScopeLemmas.{at_scope-text, lookup-text}
use Rattle.nj_scope.proofs.scopes.Scopes.own_value.Goals as goal

pub returns-in-Some : goal.returns-in-Some
returns-in-Some c =
    ap Some c.as_slice.ensures.value ∙ ap (option_map (λ v. v.items)) c.in-Some.ensures.value
    ∙ sym (lookup-text (λ v. v.items) c.index.result.now.values.entries c.args.name.now)
    ∙ sym (at_scope-text c.self.inside.scopes.items c.args.scope.0 c.index.result.now c.index.result.now
    (subst (λ ss. c.args.scope.0 < length ss) (sym c.self.view_is) c.requires) c.index.ensures
    (λ s. lookup (bytes_eq c.args.name.now) s.values))
    ∙ ap (λ ss. bound_at ss c.args.scope.0 c.args.name.now) c.self.view_is

pub returns-in-None : goal.returns-in-None
returns-in-None c =
    ap (option_map (λ v. v.items)) c.in-None.ensures.value
    ∙ sym (lookup-text (λ v. v.items) c.index.result.now.values.entries c.args.name.now)
    ∙ sym (at_scope-text c.self.inside.scopes.items c.args.scope.0 c.index.result.now c.index.result.now
    (subst (λ ss. c.args.scope.0 < length ss) (sym c.self.view_is) c.requires) c.index.ensures
    (λ s. lookup (bytes_eq c.args.name.now) s.values))
    ∙ ap (λ ss. bound_at ss c.args.scope.0 c.args.name.now) c.self.view_is
