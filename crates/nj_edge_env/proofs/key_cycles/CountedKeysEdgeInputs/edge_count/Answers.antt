use Rattle.nj_edge_env.proofs.CycleLemmas.{known_edges}
use Rattle.nj_edge_env.proofs.key_cycles.CountedKeysEdgeInputs.edge_count.Goals as goal

pub returns-clause-known : goal.returns-clause-known
returns-clause-known c = known_edges c.args.self.now.references.now c.args.self.now.counts.now
