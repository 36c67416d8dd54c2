use Rattle.nj_edges.proofs.ChangeLemmas.{finds-edge}
use Rattle.nj_edges.proofs.affected.add_all.Goals as goal

pub edges-preserved : goal.edges-preserved
edges-preserved c = finds-edge c.args.found.now c.edges.found c.add.new.found c.args.edges.now
    c.edges.edge-index (record { 0 = 0 }) c.edges-test.true c.edges.invariant c.in_ok-add.ensures
