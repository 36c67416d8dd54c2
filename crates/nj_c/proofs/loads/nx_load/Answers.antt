use Rattle.std.specs.Prelude.{nat_eq, not}
use Rattle.std.proofs.Common.{rules}
use Rattle.nj_c.specs.Loading.{LoadsKept}
use Rattle.nj_c.proofs.AskLemmas.{altered}
use Rattle.nj_c.proofs.loads.nx_load.Goals as goal

pub returns-in-Some : goal.returns-in-Some
returns-in-Some c =
    altered c.load_main-status.result (λ kept then. LoadsKept kept then c.args.main.now
    (not (nat_eq c.args.joins_dyndeps 0)))
    c.in-Some.ensures.taken (search rules) (search rules) c.put.ensures (search rules)
    c.load_main-status.ensures
