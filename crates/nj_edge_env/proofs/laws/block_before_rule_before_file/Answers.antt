use Rattle.nj_edge_env.proofs.GivenLemmas.{rule_wins}
use Rattle.nj_edge_env.proofs.laws.block_before_rule_before_file.Goals as goal

pub returns-clause-rule : goal.returns-clause-rule
returns-clause-rule c = rule_wins
