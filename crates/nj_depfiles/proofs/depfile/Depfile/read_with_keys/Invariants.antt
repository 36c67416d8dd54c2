use Rattle.std.proofs.Common.{◌≡◌, length}
use Rattle.nj_depfiles.specs.Pieces.{pieces}
use Rattle.nj_depfiles.specs.Inside.Readings.{at_start, pieces_read}
use Rattle.nj_depfiles.proofs.depfile.Depfile.read_with_keys.Given as goal

abbrev pub invariant-pieces : goal.invariant-pieces
invariant-pieces l = pieces_read l.reading (pieces l.rest) ≡ pieces_read at_start (pieces l.text)

abbrev pub decreases-pieces : goal.decreases-pieces
decreases-pieces l = length l.rest
