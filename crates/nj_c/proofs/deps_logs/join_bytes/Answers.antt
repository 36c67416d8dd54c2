use Rattle.nj_c.proofs.LogLemmas.{joined}
use Rattle.nj_c.proofs.deps_logs.join_bytes.Goals as goal

pub returns-in-Ok : goal.returns-in-Ok
returns-in-Ok c =
    joined c.args.kept.now c.join_log.new.kept c.args.bytes.now c.in-Ok.log c.join_log.result
    c.in-Ok.ensures.log c.join_log.ensures
