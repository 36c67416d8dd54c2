use Rattle.nj_scope.proofs.ValueLaws.{last_counts, inherited, kept}
use Rattle.nj_scope.proofs.laws.values_by_reading_order.Goals as goal

pub returns-clause-last_counts : goal.returns-clause-last_counts
returns-clause-last_counts c = last_counts

pub returns-clause-inherited : goal.returns-clause-inherited
returns-clause-inherited c = inherited

pub returns-clause-kept : goal.returns-clause-kept
returns-clause-kept c = kept
