use Rattle.std.proofs.Common.{◌≡◌, map, ◌++◌, subst}
use Rattle.std.proofs.lemmas.List.{get_or_read}
use Rattle.nj_c.specs.Inside.SuppliedHeld.{wanted_of}
use Rattle.nj_c.proofs.WantedLemmas.{bytes_of, wanted-more}
use Rattle.nj_c.proofs.supplied_files.wanted_in.Goals as goal

pub read-preserved : goal.read-preserved
read-preserved c =
    let d = c.reading-item.result in
    wanted-more _ _ c.args.read.now c.read.reading-index d c.read-test.true c.read.invariant
    (subst (λ r. map bytes_of c.push_wanted.new.paths.items ≡ map bytes_of c.read.paths.items ++ wanted_of r)
    (get_or_read c.args.read.now c.read.reading-index d c.read-test.true c.reading-item.is d)
    c.in_ok-push_wanted.ensures)
