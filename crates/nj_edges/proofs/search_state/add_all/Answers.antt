use Rattle.nj_edges.proofs.NeedsLemmas.{finds-number}
use Rattle.nj_edges.proofs.search_state.add_all.Goals as goal

pub numbers-preserved : goal.numbers-preserved
numbers-preserved c = finds-number c.args.found.now c.numbers.found c.insert.new.self c.args.numbers.now
    c.numbers.number-index c.numbers-test.true c.numbers.invariant c.in_ok-insert.ensures.added
