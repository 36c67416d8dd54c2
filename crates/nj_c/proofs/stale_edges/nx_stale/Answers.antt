use Rattle.std.proofs.Common.{rules}
use Rattle.nj_c.specs.StaleEdges.{ListsStale}
use Rattle.nj_c.proofs.AskLemmas.{altered}
use Rattle.nj_c.proofs.stale_edges.nx_stale.Goals as goal

pub returns-in-Some : goal.returns-in-Some
returns-in-Some c =
    altered {kept = c.deref_mut.result.now} {new = c.list_stale-status.new.kept} c.list_stale-status.result
    (λ kept then. ListsStale kept then c.args.log.now c.args.times.now c.args.targets.now)
    c.in-Some.ensures.taken (search rules) (search rules) c.put.ensures (search rules)
    c.list_stale-status.ensures
