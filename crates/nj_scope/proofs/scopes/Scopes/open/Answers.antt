use Rattle.std.proofs.Common.{◌≡◌, ◌<◌, Some, map, length, ap, ◌∙◌, subst, sym, refl}
use Rattle.nj_scope.specs.Scopes.{parent_at, bound_at, rule_at}
use Rattle.nj_scope.specs.Inside.ScopesHeld.{scope_model, ParentsAreEarlier}
use Rattle.nj_scope.proofs.ScopeLemmas.{opened, parent_at-number, parent_at-other, bound_at-opened}
use Rattle.nj_scope.proofs.ScopeLemmas.{rule_at-opened, earlier-opened, pushed-text}
use Rattle.nj_scope.proofs.scopes.Scopes.open.Goals as goal

held : (c : goal.In_ok-push) → map scope_model c.push.new.self.items
    ≡ opened (map scope_model c.self.inside.scopes.items) c.args.parent.0
held c = pushed-text c.self.inside.scopes.items c.push.new.self.items c.args.parent
    (record { parent = Some c.args.parent; values = c.with_hasher.result; rules = c.with_hasher-2.result })
    refl c.with_hasher.ensures.empty c.with_hasher-2.ensures.empty c.in_ok-push.ensures.items

-- the same of the value that the contract names
after : (c : goal.In_ok-push) → map scope_model c.push.new.self.items ≡ opened c.args.self.now c.args.parent.0
after c = held c ∙ ap (λ ss. opened ss c.args.parent.0) c.self.view_is

pub invariant_of-self-2 : goal.invariant_of-self-2
invariant_of-self-2 c =
    subst ParentsAreEarlier (sym (held c))
    (earlier-opened (map scope_model c.self.inside.scopes.items) c.args.parent.0
    (subst (λ ss. c.args.parent.0 < length ss) (sym c.self.view_is) c.requires) c.self.invariant)

pub returns-clause-within : goal.returns-clause-within
returns-clause-within c = ap (λ ss. parent_at ss (length c.args.self.now)) (after c)
    ∙ parent_at-number c.args.self.now c.args.parent.0

pub returns-clause-others : goal.returns-clause-others
returns-clause-others c = λ n h. ap (λ ss. parent_at ss n) (after c)
    ∙ parent_at-other c.args.self.now c.args.parent.0 n h

pub returns-clause-bound : goal.returns-clause-bound
returns-clause-bound c = λ n name. ap (λ ss. bound_at ss n name) (after c)
    ∙ bound_at-opened c.args.self.now c.args.parent.0 n name

pub returns-clause-rules : goal.returns-clause-rules
returns-clause-rules c = λ n name. ap (λ ss. rule_at ss n name) (after c)
    ∙ rule_at-opened c.args.self.now c.args.parent.0 n name
