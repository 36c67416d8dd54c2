use Rattle.std.proofs.Common.{rules, sym, w32, ◌∙◌, ◌≡◌}
use mir.Val.{SFits}
use Rattle.nj_state.specs.declared.commands.StaleEdge.{StaleEdge}
use Rattle.nj_c.proofs.OneAnswerCalls.{item-of-part}
use Rattle.nj_c.proofs.OneAnswerGraphs.{stale_at}
use Rattle.nj_c.proofs.OneAnswerLemmas.{passed}
use Rattle.nj_c.specs.StaleEdges.{reason_code, reason_place}
use Rattle.nj_c.specs.OneAnswer.{SameAnswer}
use Rattle.nj_c.proofs.one_answer.stale_edges.stale_edge_twice.Goals as goal

pub returns-clause-same : goal.returns-clause-same
returns-clause-same c =
    let fits : SFits w32 c.nx_stale_edge.result = search rules in
    let fits2 : SFits w32 c.nx_stale_edge-2.result = search rules in
    let one = c.nx_stale_edge.new in
    let two = c.nx_stale_edge-2.new in
    passed (λ r s. SameAnswer r s ((one.edge ≡ two.edge) × (one.reason ≡ two.reason)
    × (one.place ≡ two.place)))
    fits fits2 (item-of-part c.args.one.now.kept c.args.other.now.kept c.requires c.nx_stale_edge.result
    c.nx_stale_edge-2.result (stale_at c.args.index)
    (λ (x : StaleEdge). (one.edge ≡ x.edge.0) × (one.reason ≡ reason_code x.reason)
    × (one.place ≡ reason_place x.reason))
    (λ (x : StaleEdge). (two.edge ≡ x.edge.0) × (two.reason ≡ reason_code x.reason)
    × (two.place ≡ reason_place x.reason))
    ((one.edge ≡ two.edge) × (one.reason ≡ two.reason) × (one.place ≡ two.place))
    (λ x v w. (v.0 ∙ sym w.0, v.1 ∙ sym w.1, v.2 ∙ sym w.2)) c.nx_stale_edge.ensures.stale
    c.nx_stale_edge-2.ensures.stale)

pub returns-clause-kept : goal.returns-clause-kept
returns-clause-kept c =
    c.nx_stale_edge.ensures.kept ∙ c.requires ∙ sym c.nx_stale_edge-2.ensures.kept
