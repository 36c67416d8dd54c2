use Rattle.nj_needs.proofs.Bridges.{AreWithin-from}
use Rattle.nj_needs.proofs.needs.beginning.turns.Turns.edge_count.Goals as goal

pub returns-clause-within : goal.returns-clause-within
returns-clause-within c = AreWithin-from c.args.self.now.graph.now c.args.self.now.targets.now
