use Rattle.nj_graph.proofs.FirstPositions.{first_position_is_first, sign_is_before_the_first}
use Rattle.nj_graph.proofs.laws.sign_before_the_first_name.Goals as goal

pub returns-clause-first : goal.returns-clause-first
returns-clause-first c = first_position_is_first

pub returns-clause-sign : goal.returns-clause-sign
returns-clause-sign c = sign_is_before_the_first
