use Rattle.std.proofs.Common.{true, map, take, get_or, set, subst}
use Rattle.nj_edges.specs.declared.edges.EdgeNo.{EdgeNo}
use Rattle.nj_stale.specs.Inside.MissingHeld.{AreFlags}
use Rattle.nj_stale.proofs.MissingLemmas.{flags_more, mapped_more}
use Rattle.nj_stale.proofs.missing.edge_flags.Goals as goal

pub edges-preserved : goal.edges-preserved
edges-preserved c =
    let edges = c.args.edges.now in
    let i = c.edges.edge-index in
    let none : EdgeNo = record { 0 = 0 } in
    let edge = get_or edges i none in
    subst (λ numbers. AreFlags c.args.count numbers (set c.edges.flags.items edge.0 true))
    (mapped_more (λ (e : EdgeNo). e.0) edges i none c.edges-test.true)
    (flags_more c.args.count (map (λ (e : EdgeNo). e.0) (take i edges)) c.edges.flags.items edge.0
    (c.requires i none c.edges-test.true) c.edges.invariant)
