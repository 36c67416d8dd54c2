-- How a `NameHasher` takes in bytes.
use Rattle.std.specs.Prelude.{ℕ, ◌+◌, ◌*◌, ◌/◌, ◌%◌, ◌^◌, if◌then◌else◌, nat_eq, nat_lt, bit_or, bit_xor, fold, List, length}
use Rattle.std.specs.Int.{w64, from_le_bytes}

-- a hasher, between two calls
pub record HasherState : Type 0 where
  -- the state after the blocks so far
  pub state : ℕ
  -- the factor of a sum with a block
  pub factor : ℕ
  -- the bytes since the last block, the first one highest, below a bit that is set
  pub pending : ℕ

-- the halves of the 128 bits of a product, joined by xor
abbrev pub folded_product : ℕ → ℕ → ℕ
folded_product a b = bit_xor (a * b % 2 ^ 64) (a * b / 2 ^ 64)

-- a number with one more byte at its end, in 64 bits
abbrev pub with_byte : ℕ → (byte : ℕ) → ℕ
with_byte number byte = bit_or (number * 2 ^ 8 % 2 ^ 64) byte

-- the state after a whole block
abbrev pub take_block : HasherState → (block : ℕ) → HasherState
take_block hasher block = record hasher { state = folded_product ((hasher.state + block) % 2 ^ 64) hasher.factor }

-- the state after one byte; the eighth of a block ends it
abbrev pub take_byte : HasherState → (byte : ℕ) → HasherState
take_byte hasher byte =
    let block = with_byte hasher.pending byte in
    let ended = take_block hasher block in
    if nat_lt hasher.pending (2 ^ 56) then record hasher { pending = block } else record ended { pending = 1 }

-- the state after bytes; eight that come at once are a block of their own
abbrev pub write : HasherState → List ℕ → HasherState
write hasher bytes = if nat_eq (length bytes) 8 then take_block hasher (from_le_bytes w64 bytes) else fold take_byte hasher bytes

-- the hash of the bytes so far
abbrev pub finish : HasherState → ℕ
finish hasher = folded_product ((hasher.state + hasher.pending) % 2 ^ 64) hasher.factor
