-- The replacement of bytes that are not UTF-8.
use Rattle.std.specs.Prelude.{ℕ, List, [], ◌∷◌}
use Rattle.std.specs.Str.Lossy.{replacement_bytes}

-- one U+FFFD for some bytes
abbrev pub replaced : (invalid : List ℕ) → List ℕ
replaced [] = []
replaced (b ∷ bs) = replacement_bytes
