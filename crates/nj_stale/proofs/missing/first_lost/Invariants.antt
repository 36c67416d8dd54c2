use Rattle.std.proofs.Common.{◌≡◌, drop}
use Rattle.std.specs.Prelude.{find}
use Rattle.nj_stale.specs.Inside.MissingHeld.{lost_held}
use Rattle.nj_stale.proofs.missing.first_lost.Given as goal

abbrev pub invariant-files : goal.invariant-files
invariant-files l =
    let test = lost_held l.graph l.times l.stated in find test (drop l.index l.files) ≡ find test l.files
