use Rattle.std.proofs.Common.{rules, sym, w32, ◌∙◌, ◌≡◌}
use Rattle.nj_statements.specs.Built.{detail_at}
use mir.Val.{SFits}
use Rattle.nj_c.proofs.OneAnswerCalls.{value-at-number}
use Rattle.nj_c.proofs.OneAnswerGraphs.{edge_total, graph_in, spot, spots-agree}
use Rattle.nj_c.proofs.OneAnswerLemmas.{passed}
use Rattle.nj_c.specs.OneAnswer.{SameAnswer}
use Rattle.nj_c.proofs.one_answer.edges.edge_place_twice.Goals as goal

pub returns-clause-same : goal.returns-clause-same
returns-clause-same c =
    let fits : SFits w32 c.nx_edge_place.result = search rules in
    let fits2 : SFits w32 c.nx_edge_place-2.result = search rules in
    passed (λ r s. SameAnswer r s ((c.nx_edge_place.new.line ≡ c.nx_edge_place-2.new.line) ×
    (c.nx_edge_place.new.column ≡ c.nx_edge_place-2.new.column))) fits fits2 (spots-agree
    c.nx_edge_place.result c.nx_edge_place-2.result c.nx_edge_place.new.line c.nx_edge_place-2.new.line
    c.nx_edge_place.new.column c.nx_edge_place-2.new.column (value-at-number graph_in c.args.one.now.kept
    c.args.other.now.kept c.requires c.nx_edge_place.result c.nx_edge_place-2.result edge_total c.args.edge
    (λ g. (detail_at g.built.details c.args.edge).spot) (spot c.nx_edge_place.new.line
    c.nx_edge_place.new.column) (spot c.nx_edge_place-2.new.line c.nx_edge_place-2.new.column)
    c.nx_edge_place.ensures.place c.nx_edge_place-2.ensures.place))

pub returns-clause-kept : goal.returns-clause-kept
returns-clause-kept c =
    c.nx_edge_place.ensures.kept ∙ c.requires ∙ sym c.nx_edge_place-2.ensures.kept
