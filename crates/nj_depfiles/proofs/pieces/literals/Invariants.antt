use Rattle.std.proofs.Common.{◌≡◌, ◌+◌, drop}
use Rattle.nj_depfiles.specs.Pieces.{literals}
use Rattle.nj_depfiles.proofs.pieces.literals.Given as goal

abbrev pub invariant-loop-byte : goal.invariant-loop-byte
invariant-loop-byte l = (l.count ≡ l.byte-index)
    × (l.count + literals (drop l.byte-index l.text) ≡ literals l.text)
