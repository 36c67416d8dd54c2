use Rattle.std.proofs.Common.{◌≡◌, map, take}
use Rattle.std.specs.List.{flat_map}
use Rattle.nj_tests.specs.Words.{pieces_in}
use Rattle.nj_tests.proofs.words.pieces_of.Given as goal

abbrev pub invariant-stretches : goal.invariant-stretches
invariant-stretches l = map (λ piece. piece.now) l.pieces.items
    ≡ flat_map (λ stretch. pieces_in stretch.now) (take l.stretch-index l.stretch-items)
