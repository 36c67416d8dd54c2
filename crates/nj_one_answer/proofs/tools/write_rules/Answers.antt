use Rattle.std.proofs.Common.{sym, subst}
use Rattle.nj_tools.specs.RuleLists.{rules_text}
use Rattle.nj_tools.specs.Texts.{WritesText}
use Rattle.nj_one_answer.proofs.ToolAnswers.{texts-agree, text-sinks-agree, both-done}
use Rattle.nj_one_answer.proofs.tools.write_rules.Goals as goal

pub returns-clause-agree : goal.returns-clause-agree
returns-clause-agree g c = λ entries is. let state = g.S.Sink.state in
    texts-agree (state c.args.one.now) (state c.write_rules.new.out) (state c.write_rules-2.new.out)
    (rules_text entries c.args.descriptions) c.write_rules.result c.write_rules-2.result
    (both-done c.write_rules.result c.write_rules-2.result)
    (c.write_rules.ensures entries is) (subst
    (λ s. WritesText s (state c.write_rules-2.new.out) (rules_text entries c.args.descriptions)
    c.write_rules-2.result)
    (sym c.requires) (c.write_rules-2.ensures entries is))

pub returns-clause-sinks : goal.returns-clause-sinks
returns-clause-sinks g c = λ entries is. let state = g.S.Sink.state in
    text-sinks-agree (state c.args.one.now) (state c.write_rules.new.out) (state c.write_rules-2.new.out)
    (rules_text entries c.args.descriptions) c.write_rules.result c.write_rules-2.result
    (c.write_rules.ensures entries is) (subst
    (λ s. WritesText s (state c.write_rules-2.new.out) (rules_text entries c.args.descriptions)
    c.write_rules-2.result)
    (sym c.requires) (c.write_rules-2.ensures entries is))
