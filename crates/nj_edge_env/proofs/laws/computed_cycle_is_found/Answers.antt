use Rattle.nj_edge_env.proofs.CycleLaws.{computed_found}
use Rattle.nj_edge_env.proofs.laws.computed_cycle_is_found.Goals as goal

pub returns : goal.returns
returns c = computed_found
