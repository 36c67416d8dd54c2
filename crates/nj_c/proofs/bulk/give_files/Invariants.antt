use Rattle.std.proofs.Common.{◌≡◌, drop, map}
use Rattle.nj_c.proofs.BufferLemmas.{written_up_to}
use Rattle.nj_c.proofs.bulk.give_files.Given as goal

abbrev pub invariant-items : goal.invariant-items
invariant-items l = l.files ≡ written_up_to l.at (drop l.from (map (λ f. f.0) l.list)) l.fn.files
