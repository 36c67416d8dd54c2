use Rattle.nj_ask.proofs.AuditLaws.{done, listed}
use Rattle.nj_ask.proofs.audit.audit_law.Goals as goal

pub returns-clause-lists : goal.returns-clause-lists
returns-clause-lists c = listed

pub returns-clause-done : goal.returns-clause-done
returns-clause-done c = done
