use Rattle.std.proofs.Common.{◌<◌, option_map, length, ap, ◌∙◌, subst, sym, bytes_eq}
use Rattle.std.specs.Map.{lookup}
use Rattle.nj_scope.specs.Scopes.{rule_at}
use Rattle.nj_scope.proofs.ScopeLemmas.{at_scope-text, lookup-text}
use Rattle.nj_scope.proofs.scopes.Scopes.own_rule.Goals as goal

pub returns : goal.returns
returns c =
    ap (option_map (λ r. r.0)) (c.copied.ensures ∙ c.get.ensures.value)
    ∙ sym (lookup-text (λ r. r.0) c.index.result.now.rules.entries c.args.name.now)
    ∙ sym (at_scope-text c.self.inside.scopes.items c.args.scope.0 c.index.result.now c.index.result.now
    (subst (λ ss. c.args.scope.0 < length ss) (sym c.self.view_is) c.requires) c.index.ensures
    (λ s. lookup (bytes_eq c.args.name.now) s.rules))
    ∙ ap (λ ss. rule_at ss c.args.scope.0 c.args.name.now) c.self.view_is
