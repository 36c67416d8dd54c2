use Rattle.std.proofs.Common.{◌≡◌, drop}
use Rattle.nj_stale.specs.States.{newest}
use Rattle.nj_stale.specs.Inside.Held.{time_held}
use Rattle.nj_stale.proofs.FileLemmas.{with_rest}
use Rattle.nj_stale.proofs.files.newest_of.Given as goal

abbrev pub invariant-files : goal.invariant-files
invariant-files l =
    let time = time_held l.graph l.times l.lent
    in with_rest l.newest (newest time (drop l.index l.files)) ≡ newest time l.files
