use Rattle.nj_agreement.proofs.DepsAnswers.{logs-agree}
use Rattle.nj_one_answer.proofs.deps.deps_log_read.Goals as goal

pub returns : goal.returns
returns c = logs-agree c.args.bytes.now c.read.result c.read-2.result c.read.ensures.log
    c.read.ensures.fault c.read-2.ensures.log c.read-2.ensures.fault
