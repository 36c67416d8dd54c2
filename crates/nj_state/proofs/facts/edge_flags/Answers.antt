use Rattle.std.proofs.Common.{true, map, take, get_or, set, subst}
use Rattle.std.proofs.lemmas.List.{take_all}
use Rattle.nj_graph.specs.declared.EdgeNo.{EdgeNo}
use Rattle.nj_state.specs.Inside.Flags.{AreFlags}
use Rattle.nj_state.proofs.FactLemmas.{flags-more, mapped-more}
use Rattle.nj_state.proofs.facts.edge_flags.Goals as goal

pub edges-preserved : goal.edges-preserved
edges-preserved c =
    let edges = c.args.edges.now in
    let i = c.edges.edge-index in
    let none : EdgeNo = record { 0 = 0 } in
    let edge = get_or edges i none in
    subst (λ numbers. AreFlags c.args.count numbers (set c.edges.flags.items edge.0 true))
    (mapped-more (λ e. e.0) edges i none c.edges-test.true)
    (flags-more c.args.count (map (λ e. e.0) (take i edges)) c.edges.flags.items edge.0
    (c.requires i none c.edges-test.true) c.edges.invariant)

pub returns : goal.returns
returns c =
    subst (λ edges. AreFlags c.args.count (map (λ e. e.0) edges) c.edges.flags.items)
    (take_all c.edges.edge-index c.args.edges.now c.edges-test.false) c.edges.invariant
