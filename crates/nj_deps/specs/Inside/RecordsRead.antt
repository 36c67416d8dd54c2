-- How records are read. Nothing here has to be believed.
use Rattle.std.specs.Prelude.{◌≡◌, ◌≤◌, ◌<◌, ◌+◌, ◌*◌, ◌%◌, ◌^◌, ℕ, Bool, true, false, List, [], ◌∷◌, ◌++◌, length, bytes_eq}
use Rattle.std.specs.List.{flat_map, list_any, AllByRecursion}
use Rattle.nj_deps.specs.LogRecords.{LogRecord, word, words, content_of, kind_bit, bytes_of, Counts}
use Rattle.nj_deps.specs.Logs.{OutputModel, with_path, with_dependencies, paths_of, outputs_of, CountInTurn, EndsBefore}

-- a list grew at its end
abbrev pub BeginsWith : List ℕ → List ℕ → Type 0
BeginsWith front whole = (rest : List ℕ) × (whole ≡ front ++ rest)

-- the numbers that the bytes are, all below the count, are appended; or a number is not below it
abbrev pub AppendsNumbers : (count : ℕ) → (bytes old new : List ℕ) → Bool → Type 0
AppendsNumbers count bytes old new true = (numbers : List ℕ) × (new ≡ old ++ numbers)
    × (bytes ≡ words numbers) × AllByRecursion (λ n. n < count) numbers
AppendsNumbers count bytes old new false = (numbers : List ℕ) → bytes ≡ words numbers
    → AllByRecursion (λ n. n < count) numbers → ⊥

-- ---- one record

-- bytes begin with a word that has the size of the content after it, below a bit
pub record IsFramed (bytes : List ℕ) (head : ℕ) (content after : List ℕ) : Type 0 where
  pub cut : bytes ≡ word head ++ (content ++ after)
  pub size : length content ≡ head % 2 ^ 31
  pub small : length content ≤ 524287

-- they do not
abbrev pub IsUnframed : (bytes : List ℕ) → Type 0
IsUnframed bytes = (head : ℕ) (content after : List ℕ) → head < 2 ^ 32
    → IsFramed bytes head content after → ⊥

-- content is the number of an output, a time of two words, and the bytes of inputs
pub record IsTimed (content : List ℕ) (output time : ℕ) (bytes : List ℕ) : Type 0 where
  pub low : ℕ
  pub high : ℕ
  pub output_fits : output < 2 ^ 32
  pub low_fits : low < 2 ^ 32
  pub high_fits : high < 2 ^ 32
  pub is_time : time ≡ low + 2 ^ 32 * high
  pub cut : content ≡ word output ++ (word low ++ (word high ++ bytes))

-- the paths and outputs of records
pub record TableModel : Type 0 where
  pub paths : List (List ℕ)
  pub outputs : List OutputModel

abbrev pub with_record : TableModel → LogRecord → TableModel
with_record table r =
    record { paths = with_path table.paths r; outputs = with_dependencies table.outputs r }

-- a record of this kind, with this content
pub record IsContent (bit : ℕ) (content : List ℕ) (r : LogRecord) : Type 0 where
  pub kind : kind_bit r ≡ bit
  pub same : content_of r ≡ content

-- the bit that is set in the head of a record
pub record IsKind (head bit : ℕ) : Type 0 where
  pub size : (n : ℕ) → n ≡ head % 2 ^ 31 → head ≡ bit + n
  pub kind : (r : LogRecord) → length (content_of r) ≤ 524287
      → head ≡ kind_bit r + length (content_of r) → kind_bit r ≡ bit

-- The record counts, and its content is added; or the record does not count.
abbrev pub Adds : (bit : ℕ) → (content : List ℕ) → (old new : TableModel) → Bool → Type 0
Adds bit content old new true = (r : LogRecord) × IsContent bit content r × Counts old.paths r
    × (new ≡ with_record old r)
Adds bit content old new false =
    ((r : LogRecord) → IsContent bit content r → Counts old.paths r → ⊥) × (new ≡ old)

-- by the bit in the head of a record
abbrev pub AddsAs : (head : ℕ) → (content : List ℕ) → (old new : TableModel) → Bool → Type 0
AddsAs head content old new counts = (bit : ℕ) × IsKind head bit × Adds bit content old new counts

-- the path is added, if it is new
abbrev pub AddsPath : (path : List ℕ) → (old new : TableModel) → Bool → Type 0
AddsPath path old new true = (list_any (bytes_eq path) old.paths ≡ false)
    × (new ≡ record { paths = old.paths ++ path ∷ []; outputs = old.outputs })
AddsPath path old new false = (list_any (bytes_eq path) old.paths ≡ true) × (new ≡ old)

-- the record at the front of the bytes counts, and is added
abbrev pub TakesRecord : (bytes after : List ℕ) → (old new : TableModel) → Type 0
TakesRecord bytes after old new = (r : LogRecord) × Counts old.paths r
    × (bytes ≡ bytes_of r ++ after) × (new ≡ with_record old r)

-- no record there counts
abbrev pub TakesNone : (bytes : List ℕ) → (old new : TableModel) → Type 0
TakesNone bytes old new = EndsBefore old.paths bytes × (new ≡ old)

-- ---- many

-- bytes are records that count, and a rest
pub record IsRead (bytes rest : List ℕ) (table : TableModel) : Type 0 where
  pub records : List LogRecord
  pub cut : bytes ≡ flat_map bytes_of records ++ rest
  pub in_turn : CountInTurn [] records
  pub paths : table.paths ≡ paths_of records
  pub outputs : table.outputs ≡ outputs_of records
