use Rattle.std.proofs.Common.{rules}
use Rattle.nj_c.specs.DiscoveredInputs.{JoinsDiscovered}
use Rattle.nj_c.proofs.AskLemmas.{altered}
use Rattle.nj_c.proofs.discovered_inputs.nx_join_discovered.Goals as goal

pub returns-in-Some : goal.returns-in-Some
returns-in-Some c =
    altered c.join_bytes-status.result (λ kept then. JoinsDiscovered kept then c.args.log.now
    c.args.times.now)
    c.in-Some.ensures.taken (search rules) (search rules) c.put.ensures (search rules)
    c.join_bytes-status.ensures
