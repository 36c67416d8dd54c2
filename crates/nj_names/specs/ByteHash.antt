-- How bytes that lie together are hashed, sixteen in a step.
use Rattle.std.specs.Prelude.{ℕ, ◌+◌, ◌-◌, ◌/◌, ◌%◌, ◌^◌, if◌then◌else◌, nat_lt, fold, List, length, take, drop}
use Rattle.std.specs.Int.{w64, w128, from_le_bytes}
use Rattle.std.specs.Simd.{first_chunks}
use Rattle.nj_names.specs.NameHash.{HasherState, folded_product, with_byte}
use Rattle.nj_names.specs.declared.byte_hash.Words.{Words}

-- sixteen bytes as two numbers, each of eight, the lowest first
abbrev pub words_of : List ℕ → Words
words_of bytes = let number = from_le_bytes w128 bytes in record { first = number % 2 ^ 64; second = number / 2 ^ 64 }

-- the state after two numbers: the first is added to the state, the second to the factor
abbrev pub take_words : (factor state : ℕ) → Words → ℕ
take_words factor state words = folded_product ((state + words.first) % 2 ^ 64) ((factor + words.second) % 2 ^ 64)

-- Fewer than sixteen bytes: the first eight and the last eight, which may overlap, or all if fewer than eight.
abbrev pub short_words : List ℕ → Words
short_words bytes =
    if nat_lt (length bytes) 8 then record { first = fold with_byte 0 bytes; second = 0 }
    else record { first = from_le_bytes w64 (take 8 bytes); second = from_le_bytes w64 (drop (length bytes - 8) bytes) }

-- the last sixteen bytes, or all if there are fewer
abbrev pub last_words : List ℕ → Words
last_words bytes = if nat_lt (length bytes) 16 then short_words bytes else words_of (drop (length bytes - 16) bytes)

-- the state of the hash after blocks of bytes
abbrev pub after_blocks : (factor start : ℕ) → List (List ℕ) → ℕ
after_blocks factor start blocks = fold (λ state block. take_words factor state (words_of block)) start blocks

-- The state after bytes: each whole sixteen, and then the last sixteen, which may take in some bytes again.
abbrev pub state_after : (factor start : ℕ) → List ℕ → ℕ
state_after factor start bytes =
    take_words factor (after_blocks factor start (first_chunks 16 (length bytes / 16) bytes)) (last_words bytes)

-- the hash of bytes; their number is taken in at the end
unfoldable pub hash_bytes : (start : HasherState) → List ℕ → ℕ
hash_bytes start bytes = folded_product ((state_after start.factor start.state bytes + length bytes) % 2 ^ 64) start.factor
