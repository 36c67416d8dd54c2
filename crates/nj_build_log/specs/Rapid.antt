-- rapidhash over lists of bytes, with its default seed and secret: the hash of commands since Ninja 1.13.
use Rattle.std.specs.Prelude.{ℕ, zero, suc, ◌+◌, ◌-◌, ◌*◌, ◌/◌, ◌%◌, ◌^◌, List, length, slice_index, bit_xor, bit_or, if◌then◌else◌, ◌==◌, nat_lt, nat_le}
use Rattle.nj_build_log.specs.Murmur.{word}
use Rattle.nj_build_log.specs.declared.rapidhash.BlockStates.{BlockStates}

-- the default seed
abbrev pub rapid_seed : ℕ
rapid_seed = 0xBDD89AA982704029

-- the first of the three numbers of the secret
abbrev pub secret_0 : ℕ
secret_0 = 0x2D358DCCAA6C78A5

-- the second
abbrev pub secret_1 : ℕ
secret_1 = 0x8BB84B93962EACC9

-- the third
abbrev pub secret_2 : ℕ
secret_2 = 0x4B33A62ED433D4A3

-- the low half of a product of 128 bits
abbrev pub low_half : ℕ → ℕ → ℕ
low_half a b = (a * b) % 2 ^ 64

-- its high half
abbrev pub high_half : ℕ → ℕ → ℕ
high_half a b = (a * b) / 2 ^ 64

-- both halves of a product, joined by xor
abbrev pub mix : ℕ → ℕ → ℕ
mix a b = bit_xor (low_half a b) (high_half a b)

-- a number shifted to the left in 64 bits
abbrev pub shifted : (n bits : ℕ) → ℕ
shifted n bits = (n * 2 ^ bits) % 2 ^ 64

-- the state before the given number of bytes, in 64 bits
abbrev pub started : (count : ℕ) → ℕ
started count = bit_xor rapid_seed (bit_xor (mix (bit_xor rapid_seed secret_0) secret_1) count)

-- sixteen bytes from a place on, mixed into a state
abbrev pub mixed_in : List ℕ → (place secret state : ℕ) → ℕ
mixed_in bytes place secret state = mix (bit_xor (word bytes place 8) secret) (bit_xor (word bytes (place + 8) 8) state)

-- ---- blocks of 48 bytes

-- a block from a place on, mixed in: a state for each sixteen bytes of the block
abbrev pub with_states : List ℕ → (place : ℕ) → BlockStates → BlockStates
with_states bytes place states = record {
  front = mixed_in bytes place secret_0 states.front;
  middle = mixed_in bytes (place + 16) secret_1 states.middle;
  back = mixed_in bytes (place + 32) secret_2 states.back;
}

-- the states after the given number of blocks at the front
abbrev pub states_after : List ℕ → (state blocks : ℕ) → BlockStates
states_after bytes state zero = record { front = state; middle = state; back = state }
states_after bytes state (suc n) = with_states bytes (48 * n) (states_after bytes state n)

-- the three states as one
abbrev pub joined : BlockStates → ℕ
joined states = bit_xor states.front (bit_xor states.middle states.back)

-- ---- the bytes after the blocks

-- the state with the remaining bytes from a place on: the first 16 if there are more than 16, and the next 16 too if there are
-- more than 32
abbrev pub with_left : List ℕ → (place state : ℕ) → ℕ
with_left bytes place state =
    let once = mixed_in bytes place secret_2 (bit_xor state secret_1) in
    if nat_le (length bytes - place) 16 then state
    else (if nat_le (length bytes - place) 32 then once else mixed_in bytes (place + 16) secret_2 once)

-- ---- two numbers of the bytes at the ends

-- of one to three bytes the first, the middle and the last
abbrev pub of_three : List ℕ → ℕ
of_three bytes =
    let count = length bytes in
    bit_or (bit_or (shifted (slice_index bytes 0) 56) (shifted (slice_index bytes (count / 2)) 32)) (slice_index bytes (count - 1))

-- four bytes from one place on, and four bytes from another place on
abbrev pub of_fours : List ℕ → (place other : ℕ) → ℕ
of_fours bytes place other = bit_or (shifted (word bytes place 4) 32) (word bytes other 4)

-- of four to sixteen bytes, where the second number begins
abbrev pub inside : (count : ℕ) → ℕ
inside count = if nat_lt count 8 then 0 else 4

-- of at most sixteen bytes
abbrev pub short_ends : List ℕ → ℕ × ℕ
short_ends bytes =
    let count = length bytes in
    if count == 0 then (0, 0)
    else (if nat_lt count 4 then (of_three bytes, 0)
    else (of_fours bytes 0 (count - 4), of_fours bytes (inside count) (count - 4 - inside count)))

-- of any bytes
abbrev pub ends : List ℕ → ℕ × ℕ
ends bytes =
    let count = length bytes in
    if nat_le count 16 then short_ends bytes else (word bytes (count - 16) 8, word bytes (count - 8) 8)

-- ---- the whole hash

-- the state before the ends
abbrev pub state_of : List ℕ → ℕ
state_of bytes =
    let count = length bytes in
    let blocks = count / 48 in
    let begin = started (count % 2 ^ 64) in
    if nat_le count 48 then with_left bytes 0 begin
    else with_left bytes (48 * blocks) (joined (states_after bytes begin blocks))

-- the hash by the last state, the ends and the count of bytes
abbrev pub finished : (state : ℕ) → (ends : ℕ × ℕ) → (count : ℕ) → ℕ
finished state ends count =
    let a = bit_xor ends.0 secret_1 in
    let b = bit_xor ends.1 state in
    mix (bit_xor (bit_xor (low_half a b) secret_0) count) (bit_xor (high_half a b) secret_1)

-- the hash of bytes
abbrev pub rapid_of : List ℕ → ℕ
rapid_of bytes = finished (state_of bytes) (ends bytes) (length bytes % 2 ^ 64)
