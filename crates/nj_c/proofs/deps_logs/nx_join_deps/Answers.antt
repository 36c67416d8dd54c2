use Rattle.std.proofs.Common.{rules}
use Rattle.nj_c.specs.JoinedLogs.{JoinsDeps}
use Rattle.nj_c.proofs.AskLemmas.{altered}
use Rattle.nj_c.proofs.deps_logs.nx_join_deps.Goals as goal

pub returns-in-Some : goal.returns-in-Some
returns-in-Some c =
    altered c.join_bytes-status.result (λ kept then. JoinsDeps kept then c.args.log.now)
    c.in-Some.ensures.taken (search rules) (search rules) c.put.ensures (search rules)
    c.join_bytes-status.ensures
