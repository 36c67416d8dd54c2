use Rattle.std.proofs.Common.{map, rules, sym, w32, ◌∙◌}
use Rattle.nj_graph.specs.Graph.{main_rules}
use mir.Val.{SFits}
use Rattle.nj_c.proofs.OneAnswerCalls.{text-of-list}
use Rattle.nj_c.proofs.OneAnswerGraphs.{graph_in}
use Rattle.nj_c.proofs.OneAnswerLemmas.{passed}
use Rattle.nj_c.specs.OneAnswer.{SameBuffer}
use Rattle.nj_c.proofs.one_answer.lists.rule_name_at_twice.Goals as goal

pub returns-clause-same : goal.returns-clause-same
returns-clause-same c =
    let fits : SFits w32 c.nx_rule_name_at.result = search rules in
    let fits2 : SFits w32 c.nx_rule_name_at-2.result = search rules in
    passed (λ r s. SameBuffer r s c.nx_rule_name_at.new.buffer c.nx_rule_name_at-2.new.buffer
    c.nx_rule_name_at.new.needed c.nx_rule_name_at-2.new.needed) fits fits2 (text-of-list graph_in
    c.args.one.now.kept c.args.other.now.kept c.requires.kept c.nx_rule_name_at.result
    c.nx_rule_name_at-2.result c.args.buffer.now c.args.buffer_other.now c.nx_rule_name_at.new.buffer
    c.nx_rule_name_at-2.new.buffer c.nx_rule_name_at.new.needed c.nx_rule_name_at-2.new.needed
    c.requires.buffer c.nx_rule_name_at.ensures.buffer c.nx_rule_name_at-2.ensures.buffer (λ g. map (λ r.
    r.name) (main_rules g)) c.args.index c.nx_rule_name_at.ensures.name c.nx_rule_name_at-2.ensures.name)

pub returns-clause-kept : goal.returns-clause-kept
returns-clause-kept c =
    c.nx_rule_name_at.ensures.kept ∙ c.requires.kept ∙ sym c.nx_rule_name_at-2.ensures.kept
