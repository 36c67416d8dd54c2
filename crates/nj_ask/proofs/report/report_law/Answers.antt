use Rattle.nj_ask.proofs.ClosureLaw.{have-reasons}
use Rattle.nj_ask.proofs.ReportLaws.{complete, complete-tests, unique}
use Rattle.nj_ask.proofs.report.report_law.Goals as goal

pub returns-clause-complete : goal.returns-clause-complete
returns-clause-complete c = complete

pub returns-clause-tests : goal.returns-clause-tests
returns-clause-tests c = complete-tests

pub returns-clause-unique : goal.returns-clause-unique
returns-clause-unique c = unique

pub returns-clause-closed : goal.returns-clause-closed
returns-clause-closed c = have-reasons
