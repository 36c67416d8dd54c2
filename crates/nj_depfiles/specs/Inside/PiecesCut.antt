-- How the code holds a piece. Nothing here has to be believed.
use Rattle.std.specs.Prelude.{◌≡◌, ℕ, ◌<◌, ◌≤◌, List, length}
use Rattle.nj_depfiles.specs.Pieces as pieces
use Rattle.nj_depfiles.specs.declared.pieces.Piece.{Piece}
use Rattle.nj_depfiles.specs.declared.pieces.Piece.TheVariants as held

abbrev pub piece_of : Piece → pieces.Piece
piece_of (held.NameBytes bytes) = pieces.Piece.NameBytes bytes.now
piece_of held.NameEnd = pieces.Piece.NameEnd
piece_of held.LineEnd = pieces.Piece.LineEnd

-- a piece and its size are the given ones, and the piece has bytes, all of them in the text
pub record IsCutAs (text : List ℕ) (cut : pieces.Cut) (found : Piece × ℕ) : Type 0 where
  pub piece : piece_of found.0 ≡ cut.0
  pub size : found.1 ≡ cut.1
  pub some : 0 < found.1
  pub within : found.1 ≤ length text
