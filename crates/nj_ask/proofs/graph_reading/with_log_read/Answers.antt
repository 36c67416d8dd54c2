use Rattle.nj_ask.specs.declared.status.Status.TheVariants.{Fault}
use Rattle.nj_ask.proofs.FailureLemmas.{memory-fails}
use Rattle.nj_ask.proofs.graph_reading.with_log_read.Goals as goal

pub returns-in_err-undeclared-clause-lacks : goal.returns-in_err-undeclared-clause-lacks
returns-in_err-undeclared-clause-lacks g c = λ stated is.
    memory-fails Fault _ c.from_residual.result c.from_residual.ensures
