use Rattle.std.proofs.Common.{◌≡◌, ◌+◌, drop}
use Rattle.nj_depfiles.specs.Pieces.{backslashes}
use Rattle.nj_depfiles.proofs.pieces.backslashes.Given as goal

abbrev pub invariant-loop-byte : goal.invariant-loop-byte
invariant-loop-byte l = (l.count ≡ l.byte-index)
    × (l.count + backslashes (drop l.byte-index l.text) ≡ backslashes l.text)
