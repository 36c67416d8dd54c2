use Rattle.std.proofs.Common.{◌≡◌, map, take}
use Rattle.std.specs.List.{flat_map}
use Rattle.nj_c.specs.Inside.SuppliedHeld.{wanted_of}
use Rattle.nj_c.proofs.WantedLemmas.{bytes_of}
use Rattle.nj_c.proofs.supplied_files.wanted_in.Given as goal

abbrev pub invariant-read : goal.invariant-read
invariant-read l = map bytes_of l.paths.items ≡ flat_map wanted_of (take l.reading-index l.read)
