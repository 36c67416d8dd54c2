use Rattle.std.proofs.Common.{◌≡◌, drop, false}
use Rattle.std.specs.Prelude.{find, slice_index_or}
use Rattle.nj_ask.proofs.needed_faults.first_flagged.Given as goal

abbrev pub invariant-faults : goal.invariant-faults
invariant-faults l =
    find (λ fault. slice_index_or l.flags fault.edge.0 false) (drop l.fault-index l.faults)
    ≡ find (λ fault. slice_index_or l.flags fault.edge.0 false) l.faults
