use Rattle.std.proofs.Common.{arith}
use Rattle.nj_edge_env.proofs.CycleLemmas.{first_within, none_first}
use Rattle.nj_edge_env.proofs.key_references.KeyReferences.first_cycle.Goals as goal

pub returns-then-key_count-eq0-clause-first : goal.returns-then-key_count-eq0-clause-first
returns-then-key_count-eq0-clause-first c = none_first c.args.self.now c.args.counts.now (omega arith)

pub returns-clause-within : goal.returns-clause-within
returns-clause-within c = first_within c.args.self.now c.args.counts.now c.first_on_cycle.result
    c.first_on_cycle.ensures
