-- The inputs that builds discovered for an edge, as Ninja loads them before a build ("Deps" and "C/C++ header
-- dependencies" in the manual).
use Rattle.std.specs.Prelude.{◌≡◌, ◌⊎◌, ℕ, ◌^◌, ◌≤◌, Bool, true, false, ◌||◌, not, if◌then◌else◌, nat_lt, Option, Some, None, option_and_then, unwrap_or, Result, Ok, Err, List, [], ◌∷◌, map, position, find, bytes_eq, IfSome}
use Rattle.std.specs.Str.{IsUtf8}
use Rattle.nj_text.specs.Calls.{is_empty}
use Rattle.nj_text.specs.Paths.{clean_path_of}
use Rattle.nj_names.specs.NameTables.{is_among, name_at}
use Rattle.nj_scope.specs.Sources.{SourceState, Rises}
use Rattle.nj_edges.specs.Edges.{EdgePaths, first_output, outputs_of}
use Rattle.nj_deps.specs.Logs.{LogModel, OutputModel, output_of}
use Rattle.nj_depfiles.specs.Depfiles.{DepfileModel, depfile_of}
use Rattle.nj_depfiles.specs.declared.depfile_fault.DepfileFault.{DepfileFault}
use Rattle.nj_discovered.specs.Times.{DeclaredTimes, IsTimeOf}
use Rattle.nj_discovered.specs.declared.times.TimeFound.{TimeFound}
use Rattle.nj_discovered.specs.declared.times.TimeFound.TheVariants.{Time, NoAnswer}
use Rattle.nj_discovered.specs.declared.verdict.Unknown.{Unknown}
use Rattle.nj_discovered.specs.declared.verdict.Unknown.TheVariants as why
use Rattle.nj_discovered.specs.declared.verdict.DepfileError.{DepfileError}
use Rattle.nj_discovered.specs.declared.verdict.DepfileError.TheVariants as error
use Rattle.nj_discovered.specs.declared.verdict.Verdict.{Verdict}
use Rattle.nj_discovered.specs.declared.verdict.Verdict.TheVariants as verdict

-- What is known of the discovered inputs of an edge: whether they are known, and if so their clean paths.
pub record Discovery : Type 0 where
  pub verdict : Verdict
  pub inputs : List (List ℕ)

-- discovered inputs that are known, as clean paths
abbrev pub known : (paths : List (List ℕ)) → Discovery
known paths = record { verdict = verdict.Known; inputs = map clean_path_of paths }

-- discovered inputs that are unknown, and why
abbrev pub unknown : Unknown → Discovery
unknown reason = record { verdict = verdict.Unknown reason; inputs = [] }

-- discovered inputs that end a build, and why
abbrev pub faulty : DepfileError → Discovery
faulty fault = record { verdict = verdict.Faulty fault; inputs = [] }

-- ---- by the deps log

-- the record of an output in a log: its last one there
abbrev pub record_of : LogModel → (output : List ℕ) → Option OutputModel
record_of log output = option_and_then (output_of log.outputs) (position (bytes_eq output) log.paths)

-- Whether an output is newer than its record. A missing output has the time 0. In Ninja a record of 2^63 or more is
-- from before 1970.
abbrev pub is_newer : (time : Option ℕ) → (recorded : ℕ) → Bool
is_newer time recorded = nat_lt recorded (unwrap_or time 0) || not (nat_lt recorded (2 ^ 63))

-- why a record does not hold, if it does not, by the time of the output
abbrev pub doubt_of : (recorded : ℕ) → TimeFound → Option Unknown
doubt_of recorded NoAnswer = Some why.NoTime
doubt_of recorded (Time time) = if is_newer time recorded then Some why.NewerOutput else None

-- the given paths are known, unless there is a reason to doubt them
abbrev pub unless_doubted : (doubt : Option Unknown) → (paths : List (List ℕ)) → Discovery
unless_doubted None paths = known paths
unless_doubted (Some reason) paths = unknown reason

-- the discovery of a record, by the time of the output
abbrev pub by_record : LogModel → OutputModel → TimeFound → Discovery
by_record log o time = unless_doubted (doubt_of o.time time) (map (name_at log.paths) o.inputs)

-- the first output has no record, or its record counts by its time
pub data IsByLog (times : DeclaredTimes) (log : LogModel) (edge : EdgePaths) (found : Discovery) : Type 0 where
  no_record : option_and_then (record_of log) (first_output edge) ≡ None → found ≡ unknown why.NoRecord
      → IsByLog times log edge found
  recorded : (output : List ℕ) (o : OutputModel) (time : TimeFound) → first_output edge ≡ Some output → record_of log output ≡ Some o
      → IsTimeOf times output time → found ≡ by_record log o time → IsByLog times log edge found

-- ---- by the depfile

-- what is at the path of a depfile: bytes, or no file; or it cannot be read
pub data TextFound : Type 0 where
  Text : (bytes : Option (List ℕ)) → TextFound
  Unreadable : TextFound

-- the other targets, which have to be outputs, letter by letter
abbrev pub by_stranger : (stranger : Option (List ℕ)) → (inputs : List (List ℕ)) → Discovery
by_stranger None inputs = known inputs
by_stranger (Some target) inputs = faulty (error.NoSuchOutput target)

-- an output, if any, has this path
abbrev pub is_that : Option (List ℕ) → (path : List ℕ) → Bool
is_that None path = false
is_that (Some output) path = bytes_eq output path

-- the first output of an edge has this path
abbrev pub is_first_output : EdgePaths → (path : List ℕ) → Bool
is_first_output edge path = is_that (first_output edge) path

-- The first target, as a clean path, is the first output of the edge; that is judged before the other targets.
abbrev pub by_targets : EdgePaths → (targets inputs : List (List ℕ)) → Discovery
by_targets edge [] inputs = faulty error.NoTarget
by_targets edge (first ∷ others) inputs =
    if is_first_output edge (clean_path_of first)
    then by_stranger (find (λ target. not (is_among (outputs_of edge) target)) others) inputs
    else unknown why.OtherTarget

-- the discovery of a depfile that was parsed
abbrev pub by_depfile : EdgePaths → Result DepfileModel DepfileFault → Discovery
by_depfile edge (Ok named) = by_targets edge named.targets named.inputs
by_depfile edge (Err fault) = faulty (error.Depfile fault)

-- the discovery of a depfile
abbrev pub by_text : EdgePaths → TextFound → Discovery
by_text edge Unreadable = faulty error.Unreadable
by_text edge (Text None) = unknown why.NoDepfile
by_text edge (Text (Some [])) = unknown why.EmptyDepfile
by_text edge (Text (Some (byte ∷ bytes))) = by_depfile edge (depfile_of (byte ∷ bytes))

-- ---- by both

-- what a source returned at the path of a depfile: what it declares there, if it declares anything; it may fail
abbrev pub IsTextOf : (before after : SourceState) → (depfile : List ℕ) → TextFound → Type 0
IsTextOf before after depfile (Text bytes) = IsUtf8 depfile × IfSome (before.files depfile) (λ meant. bytes ≡ meant)
IsTextOf before after depfile Unreadable = (¬ IsUtf8 depfile) ⊎ Rises before.failures after.failures

-- by the text at the path of the depfile
abbrev pub IsByText : (before after : SourceState) → EdgePaths → (depfile : List ℕ) → Discovery → Type 0
IsByText before after edge depfile found = (text : TextFound) × IsTextOf before after depfile text × (found ≡ by_text edge text)

-- What an edge discovers by its values of `deps` and `depfile`. With `deps` the log is used, and the depfile is not; with
-- neither, nothing is discovered, and that is known.
pub data IsDiscovered (before after : SourceState) (times : DeclaredTimes) (log : LogModel) (edge : EdgePaths) (deps depfile : List ℕ)
    (found : Discovery) : Type 0 where
  from_log : is_empty deps ≡ false → IsByLog times log edge found → IsDiscovered before after times log edge deps depfile found
  from_depfile : is_empty deps ≡ true → is_empty depfile ≡ false → IsByText before after edge depfile found
      → IsDiscovered before after times log edge deps depfile found
  from_neither : is_empty deps ≡ true → is_empty depfile ≡ true → found ≡ known []
      → IsDiscovered before after times log edge deps depfile found

-- a later state of the same source, which declares the same files
pub record IsLater (before after : SourceState) : Type 0 where
  pub files : (path : List ℕ) → after.files path ≡ before.files path
  pub failures : before.failures ≤ after.failures
