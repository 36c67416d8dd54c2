-- The texts of the limits have their numbers.
use Rattle.std.proofs.Common.{◌≡◌, ◌++◌, refl}
use Rattle.std.specs.Prelude.{codes}
use Rattle.std.specs.Fmt.{decimal, digits}
use Rattle.nj_faults.specs.Limits.{most_open, most_opened}

pub too_deep : codes "more than 32 files open"
    ≡ codes "more than " ++ decimal most_open ++ codes " files open"
unfolding digits
too_deep = refl

pub too_many_openings : codes "more than 65536 files opened"
    ≡ codes "more than " ++ decimal most_opened ++ codes " files opened"
unfolding digits
too_many_openings = refl
