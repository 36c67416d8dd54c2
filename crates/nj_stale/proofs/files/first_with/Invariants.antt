use Rattle.std.proofs.Common.{◌≡◌, drop}
use Rattle.nj_stale.specs.States.{first_with}
use Rattle.nj_stale.specs.Inside.Held.{time_held}
use Rattle.nj_stale.proofs.files.first_with.Given as goal

abbrev pub invariant-files : goal.invariant-files
invariant-files l =
    let time = time_held l.graph l.times l.lent
    in first_with time l.wanted l.index (drop l.index l.files) ≡ first_with time l.wanted 0 l.files
