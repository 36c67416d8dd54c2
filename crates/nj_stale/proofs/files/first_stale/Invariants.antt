use Rattle.std.proofs.Common.{◌≡◌, drop}
use Rattle.nj_stale.specs.States.{first_reason}
use Rattle.nj_stale.specs.Inside.Held.{input_held}
use Rattle.nj_stale.proofs.files.first_stale.Given as goal

abbrev pub invariant-files : goal.invariant-files
invariant-files l =
    let asked = input_held l.graph l.times l.reasons
    in first_reason asked l.index (drop l.index l.files) ≡ first_reason asked 0 l.files
