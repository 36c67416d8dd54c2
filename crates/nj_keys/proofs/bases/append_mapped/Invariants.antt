use Rattle.std.proofs.Common.{◌≡◌, ◌++◌, ℕ, List, length}
use Rattle.nj_keys.specs.Bases.{mapped, mapped_after, may_begin}
use Rattle.nj_keys.specs.Inside.Folders.{paths}
use Rattle.nj_keys.proofs.bases.append_mapped.Given as goal

abbrev pub invariant-bytes : goal.invariant-bytes
invariant-bytes l = record {
  before : List ℕ;
  may_begin : l.may_begin ≡ may_begin before;
  written : l.out.items ++ mapped_after (paths l.folders) before l.left l.rest
      ≡ l.fn.out.items ++ mapped (paths l.folders) l.text;
}

abbrev pub decreases-bytes : goal.decreases-bytes
decreases-bytes l = length l.rest
