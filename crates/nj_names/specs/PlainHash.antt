-- How a `PlainHasher` takes in bytes.
use Rattle.std.specs.Prelude.{ℕ, if◌then◌else◌, nat_eq, fold, List, length}
use Rattle.std.specs.Int.{w64, from_le_bytes}
use Rattle.nj_names.specs.NameHash.{with_byte}

-- the number after bytes: eight bytes are the number itself, more or fewer are added to it at its low end
abbrev pub write_plain : (number : ℕ) → List ℕ → ℕ
write_plain number bytes = if nat_eq (length bytes) 8 then from_le_bytes w64 bytes else fold with_byte number bytes
