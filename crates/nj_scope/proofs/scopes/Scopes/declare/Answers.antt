use Rattle.std.proofs.Common.{◌<◌, ◌&&◌, ◌==◌, cond, Some, length, ap, ◌∙◌, subst, sym, refl, bytes_eq}
use Rattle.std.proofs.Common.{Result, Ok, Err, OnErr}
use Rattle.std.specs.Map.{lookup}
use Rattle.nj_scope.specs.Scopes.{parent_at, bound_at, rule_at}
use Rattle.nj_scope.proofs.ScopeLemmas.{earlier-set_text, kept-text, declared-text, entries_text}
use Rattle.nj_scope.proofs.scopes.Scopes.declare.Goals as goal

always : {X Y P : Type 0} (r : Result X Y) → P → OnErr r P
always (Ok x) h = tt
always (Err y) h = h

pub invariant_of-self : goal.invariant_of-self
invariant_of-self c = earlier-set_text c.self.inside.scopes.items c.args.scope.0 c.index_mut.result.now
    (record {
      parent = c.index_mut.result.now.parent;
      values = c.index_mut.result.now.values;
      rules =
          c.insert.new.self;
    }) (subst (λ ss. c.args.scope.0 < length ss) (sym c.self.view_is) c.requires.scope)
    c.index_mut.ensures.value refl c.self.invariant

pub returns-in_err-insert-clause-refused : goal.returns-in_err-insert-clause-refused
returns-in_err-insert-clause-refused c =
    always c.from_residual-in_err-insert.result
    (λ n x. kept-text c.self.inside.scopes.items c.args.scope.0 c.index_mut.result.now
    (record {
      parent = c.index_mut.result.now.parent;
      values = c.index_mut.result.now.values;
      rules =
          c.insert.new.self;
    }) (subst (λ ss. c.args.scope.0 < length ss) (sym c.self.view_is) c.requires.scope)
    c.index_mut.ensures.value (λ s. lookup (bytes_eq x) s.rules)
    (ap (λ es. lookup (bytes_eq x) (entries_text (λ v. v.0) es)) c.in_err-insert.ensures.err) n
    ∙ ap (λ ss. rule_at ss n x) c.self.view_is)

pub returns-in_err-insert-clause-bound : goal.returns-in_err-insert-clause-bound
returns-in_err-insert-clause-bound c = λ n x. kept-text c.self.inside.scopes.items c.args.scope.0
    c.index_mut.result.now (record {
      parent = c.index_mut.result.now.parent;
      values =
          c.index_mut.result.now.values;
      rules = c.insert.new.self;
    })
    (subst (λ ss. c.args.scope.0 < length ss) (sym c.self.view_is) c.requires.scope) c.index_mut.ensures.value
    (λ s. lookup (bytes_eq x) s.values) refl n ∙ ap (λ ss. bound_at ss n x) c.self.view_is

pub returns-in_err-insert-clause-parents : goal.returns-in_err-insert-clause-parents
returns-in_err-insert-clause-parents c =
    λ n. kept-text c.self.inside.scopes.items c.args.scope.0 c.index_mut.result.now
    (record {
      parent = c.index_mut.result.now.parent;
      values = c.index_mut.result.now.values;
      rules =
          c.insert.new.self;
    }) (subst (λ ss. c.args.scope.0 < length ss) (sym c.self.view_is) c.requires.scope)
    c.index_mut.ensures.value (λ s. s.parent) refl n ∙ ap (λ ss. parent_at ss n) c.self.view_is

pub invariant_of-self-2 : goal.invariant_of-self-2
invariant_of-self-2 c = earlier-set_text c.self.inside.scopes.items c.args.scope.0 c.index_mut.result.now
    (record {
      parent = c.index_mut.result.now.parent;
      values = c.index_mut.result.now.values;
      rules =
          c.insert.new.self;
    }) (subst (λ ss. c.args.scope.0 < length ss) (sym c.self.view_is) c.requires.scope)
    c.index_mut.ensures.value refl c.self.invariant

pub returns-clause-declared : goal.returns-clause-declared
returns-clause-declared c = λ n x.
    declared-text c.self.inside.scopes.items c.args.scope.0 c.index_mut.result.now
    (record {
      parent = c.index_mut.result.now.parent;
      values = c.index_mut.result.now.values;
      rules =
          c.insert.new.self;
    }) (subst (λ ss. c.args.scope.0 < length ss) (sym c.self.view_is) c.requires.scope)
    c.index_mut.ensures.value c.in_ok-key.key c.args.rule c.in_ok-insert.ensures.entries n x
    ∙ ap (λ ss. cond (n == c.args.scope.0 && bytes_eq x c.in_ok-key.key.items) (Some c.args.rule.0)
    (rule_at ss n x)) c.self.view_is
    ∙ ap (λ y. cond (n == c.args.scope.0 && bytes_eq x y) (Some c.args.rule.0) (rule_at c.args.self.now n x))
    c.in_ok-key.ensures.items

pub returns-clause-bound : goal.returns-clause-bound
returns-clause-bound c = λ n x. kept-text c.self.inside.scopes.items c.args.scope.0 c.index_mut.result.now
    (record {
      parent = c.index_mut.result.now.parent;
      values = c.index_mut.result.now.values;
      rules =
          c.insert.new.self;
    }) (subst (λ ss. c.args.scope.0 < length ss) (sym c.self.view_is) c.requires.scope)
    c.index_mut.ensures.value (λ s. lookup (bytes_eq x) s.values) refl n
    ∙ ap (λ ss. bound_at ss n x) c.self.view_is

pub returns-clause-parents : goal.returns-clause-parents
returns-clause-parents c = λ n. kept-text c.self.inside.scopes.items c.args.scope.0 c.index_mut.result.now
    (record {
      parent = c.index_mut.result.now.parent;
      values = c.index_mut.result.now.values;
      rules =
          c.insert.new.self;
    }) (subst (λ ss. c.args.scope.0 < length ss) (sym c.self.view_is) c.requires.scope)
    c.index_mut.ensures.value (λ s. s.parent) refl n ∙ ap (λ ss. parent_at ss n) c.self.view_is
