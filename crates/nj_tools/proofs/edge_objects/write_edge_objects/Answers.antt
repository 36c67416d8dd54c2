use Rattle.std.proofs.Common.{subst, rules}
use Rattle.nj_tools.specs.EdgeObjects.{unwritable_edge}
use Rattle.nj_tools.specs.Inside.CompdbHeld.{Refuses}
use Rattle.nj_tools.proofs.OutputLemmas.{sink-fails, sink-stops, sink-takes}
use Rattle.nj_tools.proofs.CompdbLemmas.{list-ends, list-stops, refused-is}
use Rattle.nj_tools.proofs.edge_objects.write_edge_objects.Goals as goal

pub returns-in_err-unwritable : goal.returns-in_err-unwritable
returns-in_err-unwritable g c entries graph =
    list-stops _ _ _ _ c.in_err-unwritable.field-0.0 c.from_residual.result c.from_residual.ensures.1
    (sink-stops c.args.out.now _ (search rules)
    (c.in_err-unwritable.ensures.text entries graph))

pub returns-in_err-flush : goal.returns-in_err-flush
returns-in_err-flush g c entries graph =
    list-stops _ _ _ _ c.in_err-flush.field-0.0 c.from_residual-in_err-flush.result
    c.from_residual-in_err-flush.ensures.1
    (sink-fails c.args.out.now _ _ c.in_err-flush.field-0.0 (search rules)
    (c.in_ok-unwritable.ensures.text entries graph) c.in_err-flush.ensures.writes)

pub returns : goal.returns
returns g c entries graph =
    let refused = refused-is entries c.args.graph.now c.in_ok-unwritable.unwritable
    (unwritable_edge entries c.args.discoveries.now)
    (c.in_ok-unwritable.ensures.unwritable entries graph) graph in
    list-ends _ _ _ _ c.refuse.result
    (sink-takes c.args.out.now _ _ (search rules)
    (c.in_ok-unwritable.ensures.text entries graph) c.in_ok-flush.ensures.writes)
    (subst (λ fault. Refuses fault c.refuse.result) refused.1 (c.refuse.ensures entries refused.0))
