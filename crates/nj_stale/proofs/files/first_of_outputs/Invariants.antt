use Rattle.std.proofs.Common.{◌≡◌, drop}
use Rattle.nj_stale.specs.States.{first_reason}
use Rattle.nj_stale.specs.Inside.Held.{output_held}
use Rattle.nj_stale.proofs.files.first_of_outputs.Given as goal

abbrev pub invariant-files : goal.invariant-files
invariant-files l =
    let asked = output_held l.graph l.times l.log.lines l.facts l.newest
    in first_reason asked l.index (drop l.index l.files) ≡ first_reason asked 0 l.files
