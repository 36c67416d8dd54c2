use Rattle.std.proofs.Common.{◌≡◌, ◌++◌, length}
use Rattle.nj_build_log.specs.Logs.{logged_lines}
use Rattle.nj_build_log.proofs.build_log.BuildLog.read_with_keys.Given as goal

abbrev pub invariant-lines : goal.invariant-lines
invariant-lines l = l.table ++ logged_lines l.rest ≡ logged_lines l.initial.rest

abbrev pub decreases-lines : goal.decreases-lines
decreases-lines l = length l.rest
