use Rattle.nj_scope.proofs.Gathering.{in_reading_order}
use Rattle.nj_graph.specs.Origins.{rule_place_given, pool_detail_given, opening_given}
use Rattle.nj_graph.proofs.laws.origins_by_reading_order.Goals as goal

pub returns-clause-rules : goal.returns-clause-rules
returns-clause-rules c = in_reading_order rule_place_given

pub returns-clause-pools : goal.returns-clause-pools
returns-clause-pools c = in_reading_order pool_detail_given

pub returns-clause-openings : goal.returns-clause-openings
returns-clause-openings c = in_reading_order opening_given
