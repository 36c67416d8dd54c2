use Rattle.std.proofs.Common.{rules, sym, w32, ◌∙◌}
use Rattle.nj_graph.specs.Graph.{IsGraphOf, rule_name_at}
use mir.Val.{SFits}
use Rattle.nj_c.proofs.OneAnswerCalls.{stated-text}
use Rattle.nj_c.proofs.OneAnswerGraphs.{graph_in, edge_total}
use Rattle.nj_c.proofs.OneAnswerLemmas.{passed}
use Rattle.nj_c.specs.OneAnswer.{IfStated, SameBuffer}
use Rattle.nj_c.proofs.one_answer.edges.rule_name_twice.Goals as goal

pub returns-clause-same : goal.returns-clause-same
returns-clause-same c =
    let fits : SFits w32 c.nx_rule_name.result = search rules in
    let fits2 : SFits w32 c.nx_rule_name-2.result = search rules in
    passed (λ r s. IfStated c.args.one.now.kept (SameBuffer r s c.nx_rule_name.new.buffer
    c.nx_rule_name-2.new.buffer c.nx_rule_name.new.needed c.nx_rule_name-2.new.needed)) fits fits2
    (stated-text graph_in c.args.one.now.kept c.args.other.now.kept c.requires.kept c.nx_rule_name.result
    c.nx_rule_name-2.result c.args.buffer.now c.args.buffer_other.now c.nx_rule_name.new.buffer
    c.nx_rule_name-2.new.buffer c.nx_rule_name.new.needed c.nx_rule_name-2.new.needed c.requires.buffer
    c.nx_rule_name.ensures.buffer c.nx_rule_name-2.ensures.buffer IsGraphOf edge_total c.args.edge (λ
    stated. rule_name_at stated c.args.edge) c.nx_rule_name.ensures.name c.nx_rule_name-2.ensures.name)

pub returns-clause-kept : goal.returns-clause-kept
returns-clause-kept c =
    c.nx_rule_name.ensures.kept ∙ c.requires.kept ∙ sym c.nx_rule_name-2.ensures.kept
