use Rattle.nj_graph.proofs.NameLemmas.{names_rise, lists_main_rules}
use Rattle.nj_graph.proofs.graph.rules_by_name.Goals as goal

pub returns-clause-rise : goal.returns-clause-rise
returns-clause-rise c = names_rise

pub returns-clause-listed : goal.returns-clause-listed
returns-clause-listed c = lists_main_rules
