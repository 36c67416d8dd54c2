use Rattle.std.proofs.Common.{rules, sym, w32, ◌∙◌, ◌≡◌}
use mir.Val.{SFits}
use Rattle.nj_c.proofs.OneAnswerCalls.{value-at-graph}
use Rattle.nj_c.proofs.OneAnswerGraphs.{edge_total, graph_in}
use Rattle.nj_c.proofs.OneAnswerLemmas.{passed}
use Rattle.nj_c.specs.OneAnswer.{SameAnswer}
use Rattle.nj_c.proofs.one_answer.counts.edge_count_twice.Goals as goal

pub returns-clause-same : goal.returns-clause-same
returns-clause-same c =
    let fits : SFits w32 c.nx_edge_count.result = search rules in
    let fits2 : SFits w32 c.nx_edge_count-2.result = search rules in
    passed (λ r s. SameAnswer r s (c.nx_edge_count.new.count ≡ c.nx_edge_count-2.new.count)) fits fits2
    (value-at-graph graph_in c.args.one.now.kept c.args.other.now.kept c.requires c.nx_edge_count.result
    c.nx_edge_count-2.result edge_total c.nx_edge_count.new.count c.nx_edge_count-2.new.count
    c.nx_edge_count.ensures.count c.nx_edge_count-2.ensures.count)

pub returns-clause-kept : goal.returns-clause-kept
returns-clause-kept c =
    c.nx_edge_count.ensures.kept ∙ c.requires ∙ sym c.nx_edge_count-2.ensures.kept
