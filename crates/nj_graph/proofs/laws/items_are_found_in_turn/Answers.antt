use Rattle.nj_graph.proofs.ParsedLemmas.{statements_are_found_in_turn, entries_are_found_in_turn}
use Rattle.nj_graph.proofs.laws.items_are_found_in_turn.Goals as goal

pub returns-clause-statements : goal.returns-clause-statements
returns-clause-statements c = statements_are_found_in_turn

pub returns-clause-entries : goal.returns-clause-entries
returns-clause-entries c = entries_are_found_in_turn
