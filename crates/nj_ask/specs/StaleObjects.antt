-- Stale edges as objects in JSON, a line each.
use Rattle.std.specs.Prelude.{ℕ, ℤ, pos, negsuc, Option, Some, None, option_and_then, option_map, List, codes, slice_get}
use Rattle.std.specs.List.{flat_map}
use Rattle.std.specs.Option.{option_map_or}
use Rattle.std.specs.Str.Lossy.{utf8_lossy}
use Rattle.serde_json.specs.Data.{Data, Num, member, negative, no_members, null, number, object, string, unsigned}
use Rattle.serde_json.specs.Written.{compact_text}
use Rattle.nj_names.specs.NameTables.{name_at}
use Rattle.nj_build_log.specs.Logs.{entry_of}
use Rattle.nj_edges.specs.Edges.{EdgePaths, edge_at, inputs_of, maker_of, outputs_of}
use Rattle.nj_stale.specs.States.{Evidence, State}
use Rattle.nj_stale.specs.declared.reason.Reason.{Reason}
use Rattle.nj_stale.specs.declared.reason.Reason.TheVariants.{UnknownInputs, StaleInput, MissingOutput, OlderOutput, OtherCommand, EarlierBuild, NotLogged}
use Rattle.nj_state.specs.declared.commands.StaleEdge.{StaleEdge}
use Rattle.nj_ask.specs.Affected.{line}

-- ---- the parts of a reason

-- the word for an input that is stale: a source is missing
abbrev pub input_word : (maker : Option ℕ) → List ℕ
input_word None = codes "missing-input"
input_word (Some edge) = codes "stale-input"

-- the word of a reason
abbrev pub reason_word : List EdgePaths → EdgePaths → Reason → List ℕ
reason_word edges e UnknownInputs = codes "unknown-inputs"
reason_word edges e (StaleInput place) = input_word (option_and_then (maker_of edges) (slice_get (inputs_of e) place))
reason_word edges e (MissingOutput place) = codes "missing-output"
reason_word edges e (OlderOutput place) = codes "older-output"
reason_word edges e (OtherCommand place) = codes "other-command"
reason_word edges e (EarlierBuild place) = codes "earlier-build"
reason_word edges e (NotLogged place) = codes "not-logged"

-- the newest of the inputs that count, given its place
abbrev pub newest_file : EdgePaths → (newest : Option ℕ) → Option (List ℕ)
newest_file e newest = option_and_then (slice_get (inputs_of e)) newest

-- the file that `--why` names: the input or the output that gives the reason, or the newest input
abbrev pub reason_file : EdgePaths → (newest : Option ℕ) → Reason → Option (List ℕ)
reason_file e newest UnknownInputs = None
reason_file e newest (StaleInput place) = slice_get (inputs_of e) place
reason_file e newest (MissingOutput place) = slice_get (outputs_of e) place
reason_file e newest (OlderOutput place) = newest_file e newest
reason_file e newest (OtherCommand place) = None
reason_file e newest (EarlierBuild place) = newest_file e newest
reason_file e newest (NotLogged place) = slice_get (outputs_of e) place

-- an integer as a number in JSON
abbrev pub integer : ℤ → Num
integer (pos n) = unsigned n
integer (negsuc n) = negative (negsuc n)

-- the time of an output that is older than the newest input: on the disk, or by the log that of its last build
abbrev pub older_time : Evidence → EdgePaths → Reason → Option Num
older_time known e (OlderOutput place) = option_map (λ path. unsigned (known.disk_time path)) (slice_get (outputs_of e) place)
older_time known e (EarlierBuild place) =
    option_map (λ entry. integer entry.time) (option_and_then (entry_of known.lines) (slice_get (outputs_of e) place))
older_time known e reason = None

-- the time of that input
abbrev pub newer_time : State → EdgePaths → (newest : Option ℕ) → Reason → Option Num
newer_time s e newest (OlderOutput place) = option_map (λ path. unsigned (s.time path)) (newest_file e newest)
newer_time s e newest (EarlierBuild place) = option_map (λ path. unsigned (s.time path)) (newest_file e newest)
newer_time s e newest reason = None

-- ---- objects

-- a path as a value, if any; U+FFFD replaces invalid UTF-8
abbrev pub path_value : Option (List ℕ) → Data
path_value path = option_map_or (λ bytes. string (utf8_lossy bytes)) path null

-- a number as a value, if any
abbrev pub number_value : Option Num → Data
number_value n = option_map_or number n null

-- a stale edge: its first output, why it is stale, the file that gives the reason, and the two times that the reason compares
abbrev pub stale_object : Evidence → State → StaleEdge → Data
stale_object known s stale =
    let e = edge_at known.edges stale.edge.0 in
    object (
    member (codes "output") (string (utf8_lossy (name_at (outputs_of e) 0))) (
    member (codes "reason") (string (reason_word known.edges e stale.reason)) (
    member (codes "file") (path_value (reason_file e stale.newest stale.reason)) (
    member (codes "time") (number_value (older_time known e stale.reason)) (
    member (codes "file_time") (number_value (newer_time s e stale.newest stale.reason)) no_members))))
    )

-- stale edges, a line each
abbrev pub stale_objects : Evidence → State → List StaleEdge → List ℕ
stale_objects known s stale = flat_map (λ item. line (compact_text (stale_object known s item))) stale
