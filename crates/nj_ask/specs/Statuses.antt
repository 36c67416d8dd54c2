-- The exit status of the process.
use Rattle.std.specs.Prelude.{ℕ}
use Rattle.nj_ask.specs.declared.status.Status.{Status}
use Rattle.nj_ask.specs.declared.status.Status.TheVariants.{Done, Fault, Usage, Look, OutputFailed}

-- by how the run ends
abbrev pub exit_code : Status → ℕ
exit_code Done = 0
exit_code Fault = 1
exit_code Usage = 2
exit_code Look = 3
exit_code OutputFailed = 4
