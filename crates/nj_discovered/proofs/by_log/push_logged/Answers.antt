use Rattle.std.proofs.Common.{length}
use Rattle.nj_deps.proofs.NumberLemmas.{number-below}
use Rattle.nj_discovered.proofs.by_log.push_logged.Goals as goal

pub bounds-log_numbers-input : goal.bounds-log_numbers-input
bounds-log_numbers-input c =
    number-below (length c.args.log_numbers.now) c.args.inputs.now c.inputs.input-index _ c.requires
    c.inputs-test.true
