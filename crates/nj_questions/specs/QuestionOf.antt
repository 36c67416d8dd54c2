-- The question of a command line's arguments.
use Rattle.std.specs.Prelude.{ℕ, ◌||◌, ◌&&◌, Bool, true, false, not, if◌then◌else◌, List, [], ◌∷◌, ◌++◌, take, drop, codes, nat_eq}
use Rattle.std.specs.Prelude.{Option, Some, None, option_map, ok_or, Result, Err}
use Rattle.std.specs.List.{starts_with}
use Rattle.std.specs.Str.{bytes_eq}
use Rattle.clap.specs.Words.{Kinds, Row, fault_of, first_of, subcommand_of}
use Rattle.clap.specs.declared.error.kind.ErrorKind.{ErrorKind}
use Rattle.clap.specs.declared.error.kind.ErrorKind.TheVariants.{DisplayHelp, DisplayVersion}
use Rattle.nj_questions.specs.CommandLine.{command}
use Rattle.nj_questions.specs.Fields.{is_on, number_in, text_or, values_in}
use Rattle.nj_questions.specs.Questions.{AskedGraph, AffectedModel, AuditModel, DrawModel, KeysModel, StaleModel, TestsModel}
use Rattle.nj_questions.specs.Questions.{TimesModel, WhyModel, QuestionModel, SubjectModel, affected, audit, draw, json, keys, stale, tests}
use Rattle.nj_questions.specs.Questions.{timings, why}
use Rattle.nj_questions.specs.declared.refusals.Refusal.{Refusal}
use Rattle.nj_questions.specs.declared.refusals.Refusal.TheVariants as refusal

-- ---- the question of a subcommand and its rows

-- `stale` and `times` join the inputs that builds discovered even without `--deps`, but `times --dead` does not
abbrev pub takes_deps : (name : List ℕ) → List Row → Bool
takes_deps name rows = bytes_eq name (codes "stale") || (bytes_eq name (codes "times") && not (is_on (codes "dead") rows))

-- the options that name the graph, of the subcommand with the given name
abbrev pub graph_in : (name : List ℕ) → List Row → AskedGraph
graph_in name rows = record {
  file = text_or (codes "file") (codes "build.ninja") rows;
  dyndep = is_on (codes "dyndep") rows;
  deps = takes_deps name rows || is_on (codes "deps") rows;
  log = first_of (codes "deps-log-file") rows;
}

-- the options of `affected`
abbrev pub affected_in : List Row → AffectedModel
affected_in rows = record {
  source_dirs = values_in (codes "source-dir") rows;
  zero_ended = is_on (codes "zero-ended") rows;
  ignored = values_in (codes "ignore") rows;
  rules = values_in (codes "rule") rows;
  prefix = text_or (codes "prefix") [] rows;
  no_phony = is_on (codes "no-phony") rows;
  ignore_unknown = is_on (codes "ignore-unknown") rows;
  allow_empty = is_on (codes "allow-empty") rows;
  since = first_of (codes "since") rows;
  bases = values_in (codes "base") rows;
}

-- the options of `audit`
abbrev pub audit_in : List Row → AuditModel
audit_in rows = record {
  all = is_on (codes "all") rows;
  only = values_in (codes "only") rows;
  except = values_in (codes "except") rows;
  json = is_on (codes "json") rows;
  list = is_on (codes "list") rows;
}

-- the options of `draw`
abbrev pub draw_in : List Row → DrawModel
draw_in rows = record {
  targets = values_in (codes "targets") rows;
  affected = is_on (codes "affected") rows;
  fold = is_on (codes "fold") rows;
  limit = number_in (codes "limit") rows;
  inputs = number_in (codes "inputs") rows;
}

-- the options of `keys`
abbrev pub keys_in : List Row → KeysModel
keys_in rows = record {
  bases = values_in (codes "base") rows;
  additions = values_in (codes "with") rows;
  files = values_in (codes "with-file") rows;
  take = number_in (codes "take") rows;
  resume = first_of (codes "resume") rows;
  all = is_on (codes "all") rows;
  json = is_on (codes "json") rows;
  targets = values_in (codes "targets") rows;
}

-- the options of `stale`
abbrev pub stale_in : List Row → StaleModel
stale_in rows = record {
  targets = values_in (codes "targets") rows;
  why = is_on (codes "why") rows;
  json = is_on (codes "json") rows;
  no_manifest = is_on (codes "no-manifest") rows;
}

-- the options of `tests`, including those of a change, as `affected` has them
abbrev pub tests_in : List Row → TestsModel
tests_in rows = record {
  change = affected_in rows;
  ctest = first_of (codes "ctest") rows;
  meson = first_of (codes "meson") rows;
  format = first_of (codes "format") rows;
  why = is_on (codes "why") rows;
  json = is_on (codes "json") rows;
  unnamed = first_of (codes "unnamed") rows;
}

-- the options of `times`
abbrev pub times_in : List Row → TimesModel
times_in rows = record {
  targets = values_in (codes "targets") rows;
  top = number_in (codes "top") rows;
  by_rule = is_on (codes "by-rule") rows;
  dead = is_on (codes "dead") rows;
  json = is_on (codes "json") rows;
}

-- the options of `why`
abbrev pub why_in : List Row → WhyModel
why_in rows = record {
  start = text_or (codes "A") [] rows;
  end = text_or (codes "B") [] rows;
  validations = is_on (codes "validations") rows;
  no_order_only = is_on (codes "no-order-only") rows;
}

-- what the subcommand with the given name asks
abbrev pub subject_in : (name : List ℕ) → List Row → Option SubjectModel
subject_in name rows =
    if bytes_eq name (codes "affected") then Some (affected (affected_in rows))
    else if bytes_eq name (codes "audit") then Some (audit (audit_in rows))
    else if bytes_eq name (codes "draw") then Some (draw (draw_in rows))
    else if bytes_eq name (codes "json") then Some json
    else if bytes_eq name (codes "keys") then Some (keys (keys_in rows))
    else if bytes_eq name (codes "stale") then Some (stale (stale_in rows))
    else if bytes_eq name (codes "tests") then Some (tests (tests_in rows))
    else if bytes_eq name (codes "times") then Some (timings (times_in rows))
    else if bytes_eq name (codes "why") then Some (why (why_in rows))
    else None

-- the question of the subcommand with the given name
abbrev pub question_in : (name : List ℕ) → List Row → Option QuestionModel
question_in name rows = option_map (λ subject. record {
  folder = first_of (codes "folder") rows;
  graph = graph_in name rows;
  subject = subject;
}) (subject_in name rows)

-- ---- arguments that are not a question

-- why arguments are refused; `shows_help` is a request for help or the version
pub data RefusalModel : Type 0 where
  out_of_memory : RefusalModel
  old_option : RefusalModel
  shows_help : RefusalModel
  unparsed : RefusalModel

-- a refusal, without its text
abbrev pub refusal_model : Refusal → RefusalModel
refusal_model refusal.OutOfMemory = out_of_memory
refusal_model refusal.OldOption = old_option
refusal_model (refusal.Help text) = shows_help
refusal_model (refusal.Unparsed text) = unparsed

-- an argument is the option that `--deps` has replaced, alone or with a value
abbrev pub is_old_option : (word : List ℕ) → Bool
is_old_option word = bytes_eq word (codes "--deps-log") || starts_with nat_eq word (codes "--deps-log=")

-- an argument before the first `--` is the old option
abbrev pub has_old_option : (words : List (List ℕ)) → Bool
has_old_option [] = false
has_old_option (word ∷ words) = not (bytes_eq word (codes "--")) && (is_old_option word || has_old_option words)

-- an error that only asks for help or the version
abbrev pub is_help : ErrorKind → Bool
is_help DisplayHelp = true
is_help DisplayVersion = true
is_help _ = false

-- why `clap` refuses arguments, by the kinds of its errors; all of them are help, or none is
abbrev pub refused_by : Kinds → Option RefusalModel
refused_by [] = None
refused_by (kind ∷ kinds) = Some (if is_help kind then shows_help else unparsed)

-- ---- `-C` before the subcommand

-- how many of the arguments name a directory before the subcommand: `-C DIR` or `-CDIR`
abbrev pub folder_word_count : (words : List (List ℕ)) → ℕ
folder_word_count [] = 0
folder_word_count (word ∷ words) = if bytes_eq word (codes "-C") then 2 else if starts_with nat_eq word (codes "-C") then 1 else 0

-- a subcommand, with the arguments before it as its first ones; nothing if there is none
abbrev pub subcommand_first : (folder words : List (List ℕ)) → List (List ℕ)
subcommand_first folder [] = []
subcommand_first folder (subcommand ∷ words) = subcommand ∷ folder ++ words

-- the arguments with the directory after the subcommand, where `clap` takes it
abbrev pub folder_second : (words : List (List ℕ)) → List (List ℕ)
folder_second words = subcommand_first (take (folder_word_count words) words) (drop (folder_word_count words) words)

-- ---- the question

-- the question of a subcommand, unless the arguments are refused; a subcommand is required
abbrev pub asked : Option RefusalModel → Option (List ℕ × List Row) → Result QuestionModel RefusalModel
asked (Some refused) subcommand = Err refused
asked None None = Err unparsed
asked None (Some subcommand) = ok_or (question_in subcommand.0 subcommand.1) unparsed

-- the question that `clap` reads
abbrev pub parsed : (words : List (List ℕ)) → Result QuestionModel RefusalModel
parsed words = asked (refused_by (fault_of command words)) (subcommand_of command words)

-- The old option is refused before `clap` reads the arguments. Memory never runs out here.
unfoldable pub question_of : (words : List (List ℕ)) → Result QuestionModel RefusalModel
question_of words = if has_old_option words then Err old_option else parsed (folder_second words)
