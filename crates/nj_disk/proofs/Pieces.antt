-- The bytes read, piece by piece.
use Rattle.std.proofs.Common.{◌≡◌, ℕ, ◌+◌, ◌≤◌, Option, List, length, take, drop, sym, subst}
use Rattle.std.proofs.KnownBytes.{Consumes-trans}
use Rattle.std.proofs.Math.Seq.{take-add}
use Rattle.std.specs.Io.KnownBytes.{Consumes}

-- the reader's first bytes are at the front of the buffer
pub record IsFilled (first now : Option (List ℕ)) (capacity : List ℕ) (filled : ℕ) : Type 0 where
  pub read : Consumes first now (take filled capacity)
  pub in_capacity : filled ≤ length capacity
  pub within : filled ≤ 1073741824

-- one more piece
pub Consumes-piece : (a b c : Option (List ℕ)) (old new : List ℕ) (f n : ℕ) → Consumes a b (take f old)
    → take f new ≡ take f old → Consumes b c (take n (drop f new)) → Consumes a c (take (f + n) new)
Consumes-piece a b c old new f n before front piece =
    subst (Consumes a c) (sym (take-add f n new))
    (Consumes-trans a b c (take f new) (take n (drop f new)) (subst (Consumes a b) (sym front) before)
    piece)
