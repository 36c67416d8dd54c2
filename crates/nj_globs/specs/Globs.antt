-- The paths that a glob matches.
use Rattle.std.specs.Prelude.{◌≡◌, ◌⊎◌, ℕ, Bool, true, false, not, ◌&&◌, if◌then◌else◌, ◌==◌, nat_le, List, [], ◌∷◌, ◌++◌}
use Rattle.std.specs.List.{list_any}
use Rattle.nj_globs.specs.declared.parts.ByteRange.{ByteRange}

-- a part of a glob
pub data GlobPart : Type 0 where
  -- this byte
  one_byte : (byte : ℕ) → GlobPart
  -- `?`
  any_byte : GlobPart
  -- `*`
  star : GlobPart
  -- `**`
  double_star : GlobPart
  -- `**/` where a directory begins
  directories : GlobPart
  -- `[..]`, or `[!..]`, which is negated
  byte_set : (is_negated : Bool) (ranges : List ByteRange) → GlobPart

-- `/`
abbrev pub is_slash : ℕ → Bool
is_slash byte = byte == 47

-- a byte is in one of the ranges
abbrev pub is_in_ranges : List ByteRange → (byte : ℕ) → Bool
is_in_ranges ranges byte = list_any (λ r. nat_le r.low byte && nat_le byte r.high) ranges

-- a byte is in a set, which never has `/`
abbrev pub is_in_set : (is_negated : Bool) → List ByteRange → (byte : ℕ) → Bool
is_in_set is_negated ranges byte =
    not (is_slash byte) && (if is_negated then not (is_in_ranges ranges byte) else is_in_ranges ranges byte)

-- one byte that passes a test
abbrev pub IsOne : (test : ℕ → Bool) → (bytes : List ℕ) → Type 0
IsOne test bytes = (byte : ℕ) × (bytes ≡ byte ∷ []) × (test byte ≡ true)

-- the bytes that a part stands for: `*` for a run without `/`, `**` for any run, `**/` for no bytes or a run that ends in
-- `/`
abbrev pub StandsFor : GlobPart → (bytes : List ℕ) → Type 0
StandsFor (one_byte byte) bytes = IsOne (λ b. b == byte) bytes
StandsFor any_byte bytes = IsOne (λ b. not (is_slash b)) bytes
StandsFor star bytes = list_any is_slash bytes ≡ false
StandsFor double_star bytes = Unit {0}
StandsFor directories bytes = (bytes ≡ []) ⊎ ((front : List ℕ) × (bytes ≡ front ++ 47 ∷ []))
StandsFor (byte_set is_negated ranges) bytes = IsOne (is_in_set is_negated ranges) bytes

-- a whole path is runs of bytes, one after another, for which the parts stand
abbrev pub Matches : List GlobPart → (path : List ℕ) → Type 0
Matches [] path = path ≡ []
Matches (part ∷ parts) path = (front rest : List ℕ) × (path ≡ front ++ rest) × StandsFor part front × Matches parts rest
