-- Questions about the graph of a build, as values.
use Rattle.std.specs.Prelude.{ℕ, Bool, true, false, not, if◌then◌else◌, Option, None, option_map, List, map, string_bytes}
use Rattle.nj_questions.specs.declared.questions.Question.{Question}
use Rattle.nj_questions.specs.declared.questions.GraphOptions.{GraphOptions}
use Rattle.nj_questions.specs.declared.questions.Subject.{Subject}
use Rattle.nj_questions.specs.declared.questions.Subject.TheVariants as subject
use Rattle.nj_questions.specs.declared.questions.AffectedOptions.{AffectedOptions}
use Rattle.nj_questions.specs.declared.questions.AuditOptions.{AuditOptions}
use Rattle.nj_questions.specs.declared.questions.DrawOptions.{DrawOptions}
use Rattle.nj_questions.specs.declared.questions.KeysOptions.{KeysOptions}
use Rattle.nj_questions.specs.declared.questions.StaleOptions.{StaleOptions}
use Rattle.nj_questions.specs.declared.questions.TestsOptions.{TestsOptions}
use Rattle.nj_questions.specs.declared.questions.TimesOptions.{TimesOptions}
use Rattle.nj_questions.specs.declared.questions.WhyOptions.{WhyOptions}

-- ---- the graph

-- `dyndep`: what dyndep files discover is joined; `deps`: what builds discovered, by the deps log `log` if one is named
pub record AskedGraph : Type 0 where
  pub file : List ℕ
  pub dyndep : Bool
  pub deps : Bool
  pub log : Option (List ℕ)

-- ---- what is asked

-- `affected`: changed paths are each ended by a zero byte, or else are lines, and are in the `source_dirs`, if any; `ignored` are
-- patterns of globs; without `rules`, outputs of edges with any rule; `since` is a file with the keys of an older manifest, and `bases`
-- are the directories that its keys do not name
pub record AffectedModel : Type 0 where
  pub source_dirs : List (List ℕ)
  pub zero_ended : Bool
  pub ignored : List (List ℕ)
  pub rules : List (List ℕ)
  pub prefix : List ℕ
  pub no_phony : Bool
  pub ignore_unknown : Bool
  pub allow_empty : Bool
  pub since : Option (List ℕ)
  pub bases : List (List ℕ)

-- `audit`: `only` and `except` are words of kinds of findings
pub record AuditModel : Type 0 where
  pub all : Bool
  pub only : List (List ℕ)
  pub except : List (List ℕ)
  pub json : Bool
  pub list : Bool

-- `draw`: at most `limit` nodes, and at most `inputs` inputs of an edge
pub record DrawModel : Type 0 where
  pub targets : List (List ℕ)
  pub affected : Bool
  pub fold : Bool
  pub limit : Option ℕ
  pub inputs : Option ℕ

-- `keys`: the texts `additions`, and the contents of the `files`, go into every key; `resume` is the text of a mark; `all` asks for every
-- command, whatever targets need, and `json` for objects
pub record KeysModel : Type 0 where
  pub bases : List (List ℕ)
  pub additions : List (List ℕ)
  pub files : List (List ℕ)
  pub take : Option ℕ
  pub resume : Option (List ℕ)
  pub all : Bool
  pub json : Bool
  pub targets : List (List ℕ)

-- `stale`: `why` asks for reasons, and `json` for objects; `no_manifest` leaves out what the manifest itself is made from
pub record StaleModel : Type 0 where
  pub targets : List (List ℕ)
  pub why : Bool
  pub json : Bool
  pub no_manifest : Bool

-- `tests`: of a change, by the list of tests in the file `ctest`, or by that of Meson in the build directory `meson`; `format` and
-- `unnamed` are words
pub record TestsModel : Type 0 where
  pub change : AffectedModel
  pub ctest : Option (List ℕ)
  pub meson : Option (List ℕ)
  pub format : Option (List ℕ)
  pub why : Bool
  pub json : Bool
  pub unnamed : Option (List ℕ)

-- `times`: the `top` slowest commands, or a line for each rule (`by_rule`), or the outputs that the manifest no longer has (`dead`), or the
-- critical path; `json` asks for objects
pub record TimesModel : Type 0 where
  pub targets : List (List ℕ)
  pub top : Option ℕ
  pub by_rule : Bool
  pub dead : Bool
  pub json : Bool

-- `why`: the file that needs the other, and the file that is needed
pub record WhyModel : Type 0 where
  pub start : List ℕ
  pub end : List ℕ
  pub validations : Bool
  pub no_order_only : Bool

-- each subcommand with its options
pub data SubjectModel : Type 0 where
  affected : AffectedModel → SubjectModel
  audit : AuditModel → SubjectModel
  draw : DrawModel → SubjectModel
  json : SubjectModel
  keys : KeysModel → SubjectModel
  stale : StaleModel → SubjectModel
  tests : TestsModel → SubjectModel
  timings : TimesModel → SubjectModel
  why : WhyModel → SubjectModel

-- `folder` is the directory to change to first
pub record QuestionModel : Type 0 where
  pub folder : Option (List ℕ)
  pub graph : AskedGraph
  pub subject : SubjectModel

-- ---- what is read

-- nothing is read, not even the directory to change to: the kinds of findings are listed
abbrev pub reads_nothing : SubjectModel → Bool
reads_nothing (audit options) = options.list
reads_nothing other = false

-- the directory to change to, unless nothing is read
abbrev pub entered_folder : QuestionModel → Option (List ℕ)
entered_folder question = if reads_nothing question.subject then None else question.folder

-- `affected` and `tests` read standard input
abbrev pub takes_input : SubjectModel → Bool
takes_input (affected options) = true
takes_input (tests options) = true
takes_input other = false

-- `affected` and `tests` use the path of the working directory, and so does `audit`, unless nothing is read
abbrev pub takes_folder : SubjectModel → Bool
takes_folder (affected options) = true
takes_folder (audit options) = not options.list
takes_folder (tests options) = true
takes_folder other = false

-- ---- the values of the code

-- the options that name a graph
abbrev pub asked_graph : GraphOptions → AskedGraph
asked_graph graph = record {
  file = string_bytes graph.file;
  dyndep = graph.dyndep;
  deps = graph.deps;
  log = option_map string_bytes graph.log;
}

-- the options of `affected`
abbrev pub affected_model : AffectedOptions → AffectedModel
affected_model options = record {
  source_dirs = map string_bytes options.source_dirs.items;
  zero_ended = options.zero_ended;
  ignored = map string_bytes options.ignored.items;
  rules = map string_bytes options.rules.items;
  prefix = string_bytes options.prefix;
  no_phony = options.no_phony;
  ignore_unknown = options.ignore_unknown;
  allow_empty = options.allow_empty;
  since = option_map string_bytes options.since;
  bases = map string_bytes options.bases.items;
}

-- the options of `audit`
abbrev pub audit_model : AuditOptions → AuditModel
audit_model options = record {
  all = options.all;
  only = map string_bytes options.only.items;
  except = map string_bytes options.except.items;
  json = options.json;
  list = options.list;
}

-- the options of `draw`
abbrev pub draw_model : DrawOptions → DrawModel
draw_model options = record {
  targets = map string_bytes options.targets.items;
  affected = options.affected;
  fold = options.fold;
  limit = options.limit;
  inputs = options.inputs;
}

-- the options of `keys`
abbrev pub keys_model : KeysOptions → KeysModel
keys_model options = record {
  bases = map string_bytes options.bases.items;
  additions = map string_bytes options.additions.items;
  files = map string_bytes options.files.items;
  take = options.take;
  resume = option_map string_bytes options.resume;
  all = options.all;
  json = options.json;
  targets = map string_bytes options.targets.items;
}

-- the options of `stale`
abbrev pub stale_model : StaleOptions → StaleModel
stale_model options = record {
  targets = map string_bytes options.targets.items;
  why = options.why;
  json = options.json;
  no_manifest = options.no_manifest;
}

-- the options of `tests`
abbrev pub tests_model : TestsOptions → TestsModel
tests_model options = record {
  change = affected_model options.change;
  ctest = option_map string_bytes options.ctest;
  meson = option_map string_bytes options.meson;
  format = option_map string_bytes options.format;
  why = options.why;
  json = options.json;
  unnamed = option_map string_bytes options.unnamed;
}

-- the options of `times`
abbrev pub times_model : TimesOptions → TimesModel
times_model options = record {
  targets = map string_bytes options.targets.items;
  top = options.top;
  by_rule = options.by_rule;
  dead = options.dead;
  json = options.json;
}

-- the options of `why`
abbrev pub why_model : WhyOptions → WhyModel
why_model options = record {
  start = string_bytes options.from;
  end = string_bytes options.to;
  validations = options.validations;
  no_order_only = options.no_order_only;
}

-- what is asked
abbrev pub subject_model : Subject → SubjectModel
subject_model (subject.Affected options) = affected (affected_model options)
subject_model (subject.Audit options) = audit (audit_model options)
subject_model (subject.Draw options) = draw (draw_model options)
subject_model subject.Json = json
subject_model (subject.Keys options) = keys (keys_model options)
subject_model (subject.Stale options) = stale (stale_model options)
subject_model (subject.Tests options) = tests (tests_model options)
subject_model (subject.Times options) = timings (times_model options)
subject_model (subject.Why options) = why (why_model options)

-- a question
abbrev pub question_model : Question → QuestionModel
question_model question = record {
  folder = option_map string_bytes question.folder;
  graph = asked_graph question.graph;
  subject = subject_model question.subject;
}
