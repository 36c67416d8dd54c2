use Rattle.std.proofs.Common.{length}
use Rattle.nj_deps.specs.Inside.RecordsRead.{IsRead}
use Rattle.nj_deps.proofs.log.DepsLog.read_with_keys.Given as goal

abbrev pub invariant-records : goal.invariant-records
invariant-records l = IsRead l.initial.rest l.rest l.table

abbrev pub decreases-records : goal.decreases-records
decreases-records l = length l.rest
