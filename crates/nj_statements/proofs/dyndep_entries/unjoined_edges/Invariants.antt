use Rattle.std.proofs.Common.{◌≡◌, take}
use Rattle.nj_statements.specs.JoiningHeld.{still_pending}
use Rattle.nj_statements.specs.Inside.JoiningSteps.{edges_in}
use Rattle.nj_statements.proofs.dyndep_entries.unjoined_edges.Given as goal

abbrev pub invariant-edges : goal.invariant-edges
invariant-edges l = l.unjoined.items ≡ edges_in
    (take l.edge-index (still_pending l.bound l.edges.was_joined))
