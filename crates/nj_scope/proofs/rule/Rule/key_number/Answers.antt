use Rattle.std.proofs.Common.{ap}
use Rattle.nj_scope.specs.Rules.{RuleModel}
use Rattle.nj_scope.proofs.KeyLemmas.{all_reported, number_reported, none_reported, some_weaker, none_weaker}
use Rattle.nj_scope.proofs.rule.Rule.key_number.Goals as goal

pub number_among-requires : goal.number_among-requires
number_among-requires c =
    all_reported c.self.inside.lines.items c.self.inside.last.items c.args.self.now.lines
    (ap (λ (r : RuleModel). r.lines) c.self.view_is) c.self.invariant
    c.deref.result.now c.deref-2.result.now c.deref.ensures.value c.deref-2.ensures.value

pub returns-clause-some : goal.returns-clause-some
returns-clause-some c =
    some_weaker c.number_among.result _ _
    (λ n h. number_reported c.self.inside.lines.items c.self.inside.last.items c.args.self.now.lines
    (ap (λ (r : RuleModel). r.lines) c.self.view_is) c.self.invariant
    c.deref.result.now c.deref-2.result.now c.deref.ensures.value c.deref-2.ensures.value n c.args.key.now h.0
    h.1)
    c.number_among.ensures.some

pub returns-clause-none : goal.returns-clause-none
returns-clause-none c =
    none_weaker c.number_among.result _ _
    (none_reported c.self.inside.lines.items c.self.inside.last.items c.args.self.now.lines
    (ap (λ (r : RuleModel). r.lines) c.self.view_is) c.self.invariant
    c.deref.result.now c.deref-2.result.now c.deref.ensures.value c.deref-2.ensures.value c.args.key.now)
    c.number_among.ensures.none
