-- The contents of a deps log.
use Rattle.std.specs.Prelude.{◌≡◌, ◌≢◌, ℕ, ◌+◌, ◌*◌, ◌<◌, ◌^◌, Bool, if◌then◌else◌, nat_eq, Option, List, [], ◌∷◌, ◌++◌, length, map, fold, codes}
use Rattle.std.specs.List.{flat_map, find, AllByRecursion}
use Rattle.nj_deps.specs.LogRecords.{LogRecord, word, bytes_of, path_in, Counts}
use Rattle.nj_deps.specs.LogRecords.LogRecord.{path, dependencies}
use Rattle.nj_deps.specs.declared.log_fault.DepsLogFault.{DepsLogFault}
use Rattle.nj_deps.specs.declared.log_fault.DepsLogFault.TheVariants.{NoDepsLog, OtherVersion, OutOfMemory}
use Rattle.nj_deps.specs.declared.logged_outputs.LoggedOutput.{LoggedOutput}
use Rattle.nj_deps.specs.declared.path_no.PathNo.{PathNo}

-- ---- of records

-- an output and its inputs, by the numbers of their paths, and the time of the record
pub record OutputModel : Type 0 where
  pub output : ℕ
  pub time : ℕ
  pub inputs : List ℕ

-- all its numbers are below the given count of paths
pub record IsOfPaths (count : ℕ) (o : OutputModel) : Type 0 where
  pub output : o.output < count
  pub inputs : AllByRecursion (λ number. number < count) o.inputs

-- numbers of paths, as plain numbers
abbrev pub numbers_of : List PathNo → List ℕ
numbers_of numbers = map (λ n. n.0) numbers

-- an output with its inputs and its time
abbrev pub output_model : LoggedOutput → OutputModel
output_model logged =
    record { output = logged.output.0; time = logged.time; inputs = numbers_of logged.inputs.now }

-- the paths with the path that a record names, if any
abbrev pub with_path : List (List ℕ) → LogRecord → List (List ℕ)
with_path paths (path padded complement) = paths ++ path_in padded ∷ []
with_path paths (dependencies output low high inputs) = paths

-- in place of an earlier entry for the output, or at the end
abbrev pub with_output : List OutputModel → OutputModel → List OutputModel
with_output [] logged = logged ∷ []
with_output (other ∷ outputs) logged =
    if nat_eq other.output logged.output
    then logged ∷ outputs else other ∷ with_output outputs logged

-- the outputs with the output of a record, if any
abbrev pub with_dependencies : List OutputModel → LogRecord → List OutputModel
with_dependencies outputs (path padded complement) = outputs
with_dependencies outputs (dependencies output low high inputs) =
    with_output outputs (record { output = output; time = low + 2 ^ 32 * high; inputs = inputs })

-- the paths that the given records name, in their order
abbrev pub paths_of : List LogRecord → List (List ℕ)
paths_of records = fold with_path [] records

-- the outputs of the given records, each with its last record
abbrev pub outputs_of : List LogRecord → List OutputModel
outputs_of records = fold with_dependencies [] records

-- ---- of bytes

-- the records count, each after those before it
abbrev pub CountInTurn : (paths : List (List ℕ)) → List LogRecord → Type 0
CountInTurn paths [] = Unit {0}
CountInTurn paths (r ∷ records) = Counts paths r × CountInTurn (with_path paths r) records

-- no record that counts is at the front of the given bytes
abbrev pub EndsBefore : (paths : List (List ℕ)) → (rest : List ℕ) → Type 0
EndsBefore paths rest = (r : LogRecord) (more : List ℕ) → Counts paths r → rest ≢ bytes_of r ++ more

-- the line with which a log begins
abbrev pub first_line : List ℕ
first_line = codes "# ninjadeps" ++ 10 ∷ []

-- the first line, and the version
abbrev pub opening : (version : ℕ) → List ℕ
opening version = first_line ++ word version

-- the contents of a deps log: its paths and outputs, how many of its bytes were read, and whether they were all
pub record LogModel : Type 0 where
  pub paths : List (List ℕ)
  pub outputs : List OutputModel
  pub size : ℕ
  pub is_whole : Bool

-- Bytes are an opening, records that count, and a rest that does not begin with a record that counts.
pub record IsLogOf (bytes : List ℕ) (log : LogModel) : Type 0 where
  pub records : List LogRecord
  pub rest : List ℕ
  pub cut : bytes ≡ opening 4 ++ (flat_map bytes_of records ++ rest)
  pub in_turn : CountInTurn [] records
  pub ends : EndsBefore (paths_of records) rest
  pub paths : log.paths ≡ paths_of records
  pub outputs : log.outputs ≡ outputs_of records
  pub size : log.size + length rest ≡ length bytes
  pub is_whole : log.is_whole ≡ nat_eq (length rest) 0

-- Bytes are not a deps log; or a deps log of another version than 4; or memory ran out, whatever they are.
abbrev pub IsLogFault : (bytes : List ℕ) → DepsLogFault → Type 0
IsLogFault bytes NoDepsLog = (version : ℕ) (rest : List ℕ) → bytes ≢ opening version ++ rest
IsLogFault bytes (OtherVersion version) =
    (version < 2 ^ 32) × (version ≢ 4) × (rest : List ℕ) × (bytes ≡ opening version ++ rest)
IsLogFault bytes OutOfMemory = Unit {0}

-- the entry for the output with the given number
abbrev pub output_of : List OutputModel → (number : ℕ) → Option OutputModel
output_of outputs number = find (λ logged. nat_eq logged.output number) outputs
