use Rattle.std.proofs.Common.{rules, sym, w32, ◌∙◌, ◌≡◌}
use Rattle.nj_edges.specs.Edges.{edge_at}
use Rattle.nj_graph.specs.Graph.{edges_of}
use mir.Val.{SFits}
use Rattle.nj_c.proofs.OneAnswerCalls.{value-at-number}
use Rattle.nj_c.proofs.OneAnswerGraphs.{edge_total, graph_in}
use Rattle.nj_c.proofs.OneAnswerLemmas.{passed}
use Rattle.nj_c.specs.Asking.{bool_code}
use Rattle.nj_c.specs.OneAnswer.{SameAnswer}
use Rattle.nj_c.proofs.one_answer.edges.is_phony_twice.Goals as goal

pub returns-clause-same : goal.returns-clause-same
returns-clause-same c =
    let fits : SFits w32 c.nx_is_phony.result = search rules in
    let fits2 : SFits w32 c.nx_is_phony-2.result = search rules in
    passed (λ r s. SameAnswer r s (c.nx_is_phony.new.phony ≡ c.nx_is_phony-2.new.phony)) fits fits2
    (value-at-number graph_in c.args.one.now.kept c.args.other.now.kept c.requires c.nx_is_phony.result
    c.nx_is_phony-2.result edge_total c.args.edge (λ g. bool_code (edge_at (edges_of g)
    c.args.edge).is_phony) c.nx_is_phony.new.phony c.nx_is_phony-2.new.phony c.nx_is_phony.ensures.phony
    c.nx_is_phony-2.ensures.phony)

pub returns-clause-kept : goal.returns-clause-kept
returns-clause-kept c =
    c.nx_is_phony.ensures.kept ∙ c.requires ∙ sym c.nx_is_phony-2.ensures.kept
