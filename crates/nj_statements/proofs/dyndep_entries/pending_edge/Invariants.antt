use Rattle.std.proofs.Common.{◌≡◌, ◌<◌, ℕ, None, false, get_or}
use Rattle.nj_statements.specs.JoiningHeld.{still_pending}
use Rattle.nj_statements.specs.Inside.JoiningSteps.{is_bound_to}
use Rattle.nj_statements.proofs.dyndep_entries.pending_edge.Given as goal

abbrev pub invariant-edges : goal.invariant-edges
invariant-edges l = (n : ℕ) → n < l.edge-index
    → is_bound_to (get_or (still_pending l.bound l.edges.was_joined) n None) l.file ≡ false
