use Rattle.std.proofs.Common.{◌<◌, ◌&&◌, ◌==◌, cond, Some, length, ap, ◌∙◌, subst, sym, refl, bytes_eq}
use Rattle.std.specs.Map.{lookup}
use Rattle.nj_scope.specs.Scopes.{parent_at, bound_at, rule_at}
use Rattle.nj_scope.specs.Inside.ScopesHeld.{values_text}
use Rattle.nj_scope.proofs.DeclarationLemmas.{at_ok, at_err}
use Rattle.nj_scope.proofs.ScopeLemmas.{earlier-set_text, kept-text, bound-text}
use Rattle.nj_scope.proofs.scopes.Scopes.bind.Goals as goal

pub invariant_of-self : goal.invariant_of-self
invariant_of-self c = earlier-set_text c.self.inside.scopes.items c.args.scope.0 c.index_mut.result.now
    (record {
      parent = c.index_mut.result.now.parent;
      values = c.set_value.new.values;
      rules =
          c.index_mut.result.now.rules;
    }) (subst (λ ss. c.args.scope.0 < length ss) (sym c.self.view_is) c.requires)
    c.index_mut.ensures.value refl c.self.invariant

pub returns-clause-bound : goal.returns-clause-bound
returns-clause-bound c = at_ok c.set_value.result c.set_value.ensures.set (λ set n x.
    bound-text c.self.inside.scopes.items c.args.scope.0 c.index_mut.result.now
    (record {
      parent = c.index_mut.result.now.parent;
      values = c.set_value.new.values;
      rules =
          c.index_mut.result.now.rules;
    }) (subst (λ ss. c.args.scope.0 < length ss) (sym c.self.view_is)
    c.requires) c.index_mut.ensures.value c.args.name.now c.args.value.items set n x
    ∙ ap (λ ss. cond (n == c.args.scope.0 && bytes_eq x c.args.name.now) (Some c.args.value.items)
    (bound_at ss n x)) c.self.view_is)

pub returns-clause-refused : goal.returns-clause-refused
returns-clause-refused c = at_err c.set_value.result c.set_value.ensures.refused (λ same n x.
    kept-text c.self.inside.scopes.items c.args.scope.0 c.index_mut.result.now
    (record {
      parent = c.index_mut.result.now.parent;
      values = c.set_value.new.values;
      rules =
          c.index_mut.result.now.rules;
    }) (subst (λ ss. c.args.scope.0 < length ss) (sym c.self.view_is)
    c.requires) c.index_mut.ensures.value (λ s. lookup (bytes_eq x) s.values)
    (ap (λ es. lookup (bytes_eq x) (values_text es)) same) n ∙ ap (λ ss. bound_at ss n x) c.self.view_is)

pub returns-clause-rules : goal.returns-clause-rules
returns-clause-rules c = λ n x. kept-text c.self.inside.scopes.items c.args.scope.0 c.index_mut.result.now
    (record {
      parent = c.index_mut.result.now.parent;
      values = c.set_value.new.values;
      rules =
          c.index_mut.result.now.rules;
    }) (subst (λ ss. c.args.scope.0 < length ss) (sym c.self.view_is) c.requires)
    c.index_mut.ensures.value (λ s. lookup (bytes_eq x) s.rules) refl n
    ∙ ap (λ ss. rule_at ss n x) c.self.view_is

pub returns-clause-parents : goal.returns-clause-parents
returns-clause-parents c = λ n. kept-text c.self.inside.scopes.items c.args.scope.0 c.index_mut.result.now
    (record {
      parent = c.index_mut.result.now.parent;
      values = c.set_value.new.values;
      rules =
          c.index_mut.result.now.rules;
    }) (subst (λ ss. c.args.scope.0 < length ss) (sym c.self.view_is) c.requires)
    c.index_mut.ensures.value (λ s. s.parent) refl n ∙ ap (λ ss. parent_at ss n) c.self.view_is
