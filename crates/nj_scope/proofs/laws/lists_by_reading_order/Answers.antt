use Rattle.nj_scope.specs.ReadingList.{rule_given, pool_given, scope_given, path_named}
use Rattle.nj_scope.proofs.Gathering.{in_reading_order}
use Rattle.nj_scope.proofs.laws.lists_by_reading_order.Goals as goal

pub returns-clause-rules : goal.returns-clause-rules
returns-clause-rules c = in_reading_order rule_given

pub returns-clause-pools : goal.returns-clause-pools
returns-clause-pools c = in_reading_order pool_given

pub returns-clause-scopes : goal.returns-clause-scopes
returns-clause-scopes c = in_reading_order scope_given

pub returns-clause-files : goal.returns-clause-files
returns-clause-files c = in_reading_order path_named
