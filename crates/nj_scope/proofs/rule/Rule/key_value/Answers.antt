use Rattle.std.proofs.Common.{ap}
use Rattle.nj_scope.specs.Rules.{RuleModel}
use Rattle.nj_scope.proofs.KeyLemmas.{index_reported, value_reported}
use Rattle.nj_scope.proofs.rule.Rule.key_value.Goals as goal

pub line_at-requires-clause-index : goal.line_at-requires-clause-index
line_at-requires-clause-index c =
    index_reported c.self.inside.lines.items c.self.inside.last.items c.args.self.now.lines
    (ap (λ (r : RuleModel). r.lines) c.self.view_is) c.self.invariant
    c.deref.result.now c.deref-2.result.now c.deref.ensures.value c.deref-2.ensures.value c.args.number
    c.requires

pub returns : goal.returns
returns c =
    value_reported c.self.inside.lines.items c.self.inside.last.items c.args.self.now.lines
    (ap (λ (r : RuleModel). r.lines) c.self.view_is) c.self.invariant
    c.deref.result.now c.deref-2.result.now c.deref.ensures.value c.deref-2.ensures.value c.args.number
    c.line_at.result.now c.requires c.line_at.ensures
