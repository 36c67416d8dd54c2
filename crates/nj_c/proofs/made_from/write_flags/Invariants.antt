use Rattle.std.proofs.Common.{◌≡◌, map}
use Rattle.nj_c.specs.Asking.{bool_code}
use Rattle.nj_c.proofs.BufferLemmas.{written_up_to}
use Rattle.nj_c.proofs.made_from.write_flags.Given as goal

abbrev pub invariant-flags : goal.invariant-flags
invariant-flags l = l.flags ≡ written_up_to l.at (map bool_code l.made) l.fn.flags
