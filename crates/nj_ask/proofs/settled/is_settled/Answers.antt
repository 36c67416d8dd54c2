use Rattle.std.proofs.Common.{◌≡◌, ◌||◌, ◌∙◌, ap, subst, sym}
use Rattle.std.specs.Prelude.{IfOk}
use Rattle.nj_edges.specs.EdgeGraphs.{EdgeGraph}
use Rattle.nj_edges.specs.Edges.{edge_at}
use Rattle.nj_graph.specs.Handles.{GraphEdge, OfEdge}
use Rattle.nj_ask.specs.Inside.Reached.{edge_numbers}
use Rattle.nj_ask.specs.Settled.{HasCurrentOutputs, hides_inputs, runs_anew}
use Rattle.nj_ask.specs.Settled.IsSettledEdge.{phony, unclear}
use Rattle.nj_ask.proofs.SettledLemmas.{by-outputs}
use Rattle.nj_ask.proofs.settled.is_settled.Goals as goal

pub returns-then-is_phony : goal.returns-then-is_phony
returns-then-is_phony g c entries is =
    let phony-is = c.is_phony.ensures
    ∙ ap (λ (v : EdgeGraph). (edge_at v.edges c.args.edge.0).is_phony) c.deref.ensures in
    phony (sym phony-is ∙ c.if-is_phony.true)

pub returns-then-branch : goal.returns-then-branch
returns-then-branch g c entries is =
    let phony-is = c.is_phony.ensures
    ∙ ap (λ (v : EdgeGraph). (edge_at v.edges c.args.edge.0).is_phony) c.deref.ensures in
    let unclear-is = subst (λ (e : GraphEdge). OfEdge e (λ entries number. c.in_ok-is_unclear.field-0
    ≡ (runs_anew entries (edge_numbers c.args.commands.now) number
    || hides_inputs c.args.known.now entries number))) c.edge_at.ensures c.in_ok-is_unclear.ensures in
    unclear (sym phony-is ∙ c.if-is_phony.false) (sym (unclear-is entries is) ∙ c.if-branch.true)

pub returns : goal.returns
returns g c entries is =
    let times = g.T.FileTimes.times c.args.times.now in
    let phony-is = c.is_phony.ensures
    ∙ ap (λ (v : EdgeGraph). (edge_at v.edges c.args.edge.0).is_phony) c.deref.ensures in
    let unclear-is = subst (λ (e : GraphEdge). OfEdge e (λ entries number. c.in_ok-is_unclear.field-0
    ≡ (runs_anew entries (edge_numbers c.args.commands.now) number
    || hides_inputs c.args.known.now entries number))) c.edge_at.ensures c.in_ok-is_unclear.ensures in
    by-outputs c.args.known.now entries times (edge_numbers c.args.commands.now) c.args.edge.0
    (sym phony-is ∙ c.if-is_phony.false) (sym (unclear-is entries is) ∙ c.if-branch.false)
    c.has_current_outputs.result
    (subst (λ (v : EdgeGraph). IfOk c.has_current_outputs.result
    (HasCurrentOutputs times (edge_at v.edges c.args.edge.0))) c.deref-2.ensures
    c.has_current_outputs.ensures)
