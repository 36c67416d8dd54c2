use Rattle.nj_agreement.proofs.DepsAnswers.{logs-agree}
use Rattle.nj_one_answer.proofs.deps.deps_log_read_with_keys.Goals as goal

pub returns : goal.returns
returns c = logs-agree c.args.bytes.now c.read_with_keys.result c.read_with_keys-2.result
    c.read_with_keys.ensures.log c.read_with_keys.ensures.fault
    c.read_with_keys-2.ensures.log c.read_with_keys-2.ensures.fault
