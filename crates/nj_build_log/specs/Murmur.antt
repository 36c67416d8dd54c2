-- MurmurHash64A over lists of bytes, with the seed that Ninja uses: the hash of commands up to Ninja 1.12.
use Rattle.std.specs.Prelude.{ℕ, zero, suc, ◌+◌, ◌*◌, ◌/◌, ◌%◌, ◌^◌, List, [], ◌∷◌, length, drop, slice_range, bit_xor}

-- the seed
abbrev pub murmur_seed : ℕ
murmur_seed = 0xDECAFBADDECAFBAD

-- the multiplier of the hash
abbrev pub multiplier : ℕ
multiplier = 0xC6A4A7935BD1E995

-- the number that bytes write, the lowest first
abbrev pub number_of : List ℕ → ℕ
number_of [] = 0
number_of (byte ∷ bytes) = byte + 256 * number_of bytes

-- the number that the given count of bytes from a place on writes
abbrev pub word : List ℕ → (place count : ℕ) → ℕ
word bytes place count = number_of (slice_range bytes place (place + count))

-- the low 64 bits of a product with the multiplier
abbrev pub multiplied : ℕ → ℕ
multiplied n = (n * multiplier) % 2 ^ 64

-- a number and its upper 17 bits, joined by xor
abbrev pub folded : ℕ → ℕ
folded n = bit_xor n (n / 2 ^ 47)

-- the hash with one more block of eight bytes
abbrev pub with_block : (hash block : ℕ) → ℕ
with_block hash block = multiplied (bit_xor hash (multiplied (folded (multiplied block))))

-- the hash of the given number of blocks at the front
abbrev pub with_blocks : List ℕ → (blocks : ℕ) → ℕ
with_blocks bytes zero = bit_xor murmur_seed (multiplied (length bytes))
with_blocks bytes (suc n) = with_block (with_blocks bytes n) (word bytes (8 * n) 8)

-- the hash with the rest, fewer than eight bytes at the end
abbrev pub with_rest : (hash : ℕ) → (rest : List ℕ) → ℕ
with_rest hash [] = hash
with_rest hash (byte ∷ rest) = multiplied (bit_xor hash (number_of (byte ∷ rest)))

-- the hash of bytes
abbrev pub murmur_of : List ℕ → ℕ
murmur_of bytes =
    let blocks = length bytes / 8 in
    folded (multiplied (folded (with_rest (with_blocks bytes blocks) (drop (8 * blocks) bytes))))
