-- The records of a deps log, and how they are written.
use Rattle.std.specs.Prelude.{◌≡◌, ◌≢◌, ℕ, ◌+◌, ◌-◌, ◌<◌, ◌≤◌, ◌^◌, ◌||◌, Bool, false, if◌then◌else◌, nat_eq, List, [], ◌∷◌, ◌++◌, length, take, slice_index_or, bytes_eq}
use Rattle.std.specs.Int.{w32, to_le_bytes}
use Rattle.std.specs.List.{AllByRecursion, list_any, flat_map}

-- A record: a path, with zero bytes after it, and the complement of its number; or dependencies:
-- the number of an output, the lower and the upper half of a time, and the numbers of the output's inputs.
pub data LogRecord : Type 0 where
  path : (padded : List ℕ) (complement : ℕ) → LogRecord
  dependencies : (output low high : ℕ) (inputs : List ℕ) → LogRecord

-- ---- as bytes

-- a number of 32 bits, the lowest byte first
unfoldable pub word : ℕ → List ℕ
word number = to_le_bytes w32 number

-- several such numbers
abbrev pub words : List ℕ → List ℕ
words numbers = flat_map word numbers

-- the content of a record
abbrev pub content_of : LogRecord → List ℕ
content_of (path padded complement) = padded ++ word complement
content_of (dependencies output low high inputs) = words (output ∷ low ∷ high ∷ inputs)

-- dependencies have this bit in the word before them
abbrev pub kind_bit : LogRecord → ℕ
kind_bit (path padded complement) = 0
kind_bit (dependencies output low high inputs) = 2 ^ 31

-- a record begins with the size of its content
abbrev pub bytes_of : LogRecord → List ℕ
bytes_of r = word (kind_bit r + length (content_of r)) ++ content_of r

-- ---- records that count

-- without a zero byte at the end
abbrev pub without_zero : List ℕ → List ℕ
without_zero bytes =
    if nat_eq (slice_index_or bytes (length bytes - 1) 1) 0
    then take (length bytes - 1) bytes else bytes

-- the path that is padded with up to three zero bytes
abbrev pub path_in : (padded : List ℕ) → List ℕ
path_in padded = without_zero (without_zero (without_zero padded))

-- a line feed or a zero byte, which no path of a manifest has
abbrev pub is_never_named : ℕ → Bool
is_never_named byte = nat_eq byte 10 || nat_eq byte 0

-- a manifest may name a file so
abbrev pub MayBeNamed : List ℕ → Type 0
MayBeNamed bytes = (bytes ≢ []) × (list_any is_never_named bytes ≡ false)

-- the number of a path is the number of paths before it; a manifest may name the path, and no earlier path equals it
pub record IsNext (paths : List (List ℕ)) (path : List ℕ) (complement : ℕ) : Type 0 where
  pub number : complement + length paths + 1 ≡ 2 ^ 32
  pub may_be_named : MayBeNamed path
  pub is_new : list_any (bytes_eq path) paths ≡ false

-- all numbers but those of the time are numbers of paths
pub record AreKnown (paths : List (List ℕ)) (output low high : ℕ) (inputs : List ℕ) : Type 0 where
  pub output_known : output < length paths
  pub low_fits : low < 2 ^ 32
  pub high_fits : high < 2 ^ 32
  pub inputs_known : AllByRecursion (λ number. number < length paths) inputs

-- a record fits the paths that were named before it
abbrev pub Fits : (paths : List (List ℕ)) → LogRecord → Type 0
Fits paths (path padded complement) = IsNext paths (path_in padded) complement
Fits paths (dependencies output low high inputs) = AreKnown paths output low high inputs

-- a record that counts after the records that named the given paths
pub record Counts (paths : List (List ℕ)) (r : LogRecord) : Type 0 where
  pub size : length (content_of r) ≤ 524287
  pub fits : Fits paths r
