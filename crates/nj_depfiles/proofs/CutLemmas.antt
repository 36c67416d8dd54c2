-- The first piece of a text, and the pieces after it.
use Rattle.std.proofs.Common.{◌≡◌, ℕ, zero, suc, ◌-◌, ◌<◌, List, [], ◌∷◌, length, drop, refl, arith}
use Rattle.nj_depfiles.specs.Pieces.{first_piece, pieces_after, pieces}

pieces-skip : (skip : ℕ) (text : List ℕ) → pieces_after skip text ≡ pieces_after 0 (drop skip text)
unfolding pieces_after
pieces-skip zero text = refl
pieces-skip (suc skip) [] = refl
pieces-skip (suc skip) (byte ∷ text) = pieces-skip skip text

drop-first : (size byte : ℕ) (text : List ℕ) → 0 < size → drop (size - 1) text ≡ drop size (byte ∷ text)
drop-first size byte text some = grind arith

pub cut-first : (text : List ℕ) → 0 < length text → 0 < (first_piece text).1
    → pieces text ≡ (first_piece text).0 ∷ pieces (drop (first_piece text).1 text)
unfolding pieces_after
cut-first text none some = grind (arith, pieces-skip, drop-first)
