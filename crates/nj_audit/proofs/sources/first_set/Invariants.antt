use Rattle.std.proofs.Common.{◌≡◌, find}
use Rattle.nj_audit.specs.Audit.{is_set}
use Rattle.nj_audit.proofs.sources.first_set.Given as goal

abbrev pub invariant-edges : goal.invariant-edges
invariant-edges l = find (λ edge. is_set l.flags edge.number) l.edge-iterator
    ≡ find (λ edge. is_set l.flags edge.number) l.fn.edges
