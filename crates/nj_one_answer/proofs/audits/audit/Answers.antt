use Rattle.nj_audit.specs.LoggedInputs.{inputs_in}
use Rattle.nj_one_answer.proofs.AuditAnswers.{audits-agree}
use Rattle.nj_one_answer.proofs.audits.audit.Goals as goal

pub returns : goal.returns
returns c = λ entries is. audits-agree c.args.graph.now entries c.args.missing.now c.args.folder.now
    (inputs_in c.args.graph.now c.args.logged.now) c.args.kinds c.audit.result c.audit-2.result
    (c.audit.ensures entries is) (c.audit-2.ensures entries is)
