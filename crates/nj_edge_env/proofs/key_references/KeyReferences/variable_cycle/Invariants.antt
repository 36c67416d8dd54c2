use Rattle.nj_edge_env.specs.Blocks.{bound_in}
use Rattle.nj_edge_env.proofs.CycleLemmas.{CountedBelow}
use Rattle.nj_edge_env.proofs.key_references.KeyReferences.variable_cycle.Given as goal

abbrev pub invariant-keys : goal.invariant-keys
invariant-keys l = CountedBelow (bound_in l.blocks l.edge) l.self l.number l.counts.items
