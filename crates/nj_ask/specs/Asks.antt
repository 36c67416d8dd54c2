-- What a question does: what it reads, what it writes, and its status.
use Rattle.std.specs.Prelude.{◌≡◌, ℕ, Bool, true, false, unwrap_or, Option, Some, None, List, [], string_bytes, codes}
use Rattle.nj_scope.specs.Sources.{SourceState}
use Rattle.nj_build_log.specs.Logs.{BuildLogModel}
use Rattle.nj_discovered.specs.Times.{DeclaredTimes}
use Rattle.nj_graph.specs.ReadingList.{ReadStatement}
use Rattle.nj_graph.specs.Graph.{IsGraphOf}
use Rattle.nj_tools.specs.Sinks.{SinkState}
use Rattle.nj_audit.specs.declared.kinds.Kind.TheVariants.{UndeclaredInput}
use Rattle.nj_questions.specs.Questions.{QuestionModel, SubjectModel, affected, audit, draw, json, keys, stale, tests, timings, why}
use Rattle.nj_questions.specs.declared.refusals.Refusal.{Refusal}
use Rattle.nj_questions.specs.declared.refusals.Refusal.TheVariants as refusal
use Rattle.nj_ask.specs.declared.discovered.DiscoveredGraph.{DiscoveredGraph}
use Rattle.nj_ask.specs.declared.status.Status.{Status}
use Rattle.nj_ask.specs.declared.status.Status.TheVariants.{Fault, Usage}
use Rattle.nj_ask.specs.Answers.{AnswersAffected, AnswersDraw, AnswersJson, AnswersKeys, AnswersWhy, asked_mark, keys_misuse}
use Rattle.nj_ask.specs.Audits.{AnswersAudit, asks_for, audit_misuse, kinds_listed}
use Rattle.nj_ask.specs.BuildLogs.{LacksBuildLog, ReadsBuildLog}
use Rattle.nj_ask.specs.ChosenTests.{AnswersTests, MisusesTests, TakesTests}
use Rattle.nj_ask.specs.Endings.{Ending, Ends, Reported, Sinks, answered, memory_line, program_line, refused}
use Rattle.nj_ask.specs.Given.{MisusesAffected, TakesAffected}
use Rattle.nj_ask.specs.KnownGraphs.{KnowsGraph, LacksGraph, Sources, sources_of}
use Rattle.nj_ask.specs.OptionFiles.{LacksNamedFiles, NamedFiles, ReadsNamedFiles}
use Rattle.nj_ask.specs.Stales.{AnswersStale, stale_misuse}
use Rattle.nj_ask.specs.Times.{AnswersTimings, times_misuse}

-- ---- by its graph

-- by its subcommand; `log` is the build log, and `named` has what was read from the files that its options name
abbrev pub Answers : DiscoveredGraph → List ReadStatement → (log : BuildLogModel) → DeclaredTimes → (folder : List ℕ) → SubjectModel
    → (named : NamedFiles) → (input : List ℕ) → (output : List ℕ) → Ending → Type 0
Answers known entries log times folder (affected options) named input output ending =
    AnswersAffected known entries times folder options named.since input output ending
Answers known entries log times folder (audit options) named input output ending =
    AnswersAudit known entries times folder options output ending
Answers known entries log times folder (draw options) named input output ending = AnswersDraw known entries options output ending
Answers known entries log times folder json named input output ending = AnswersJson known entries output ending
Answers known entries log times folder (keys options) named input output ending =
    AnswersKeys known entries options named.additions (unwrap_or (asked_mark options) []) output ending
Answers known entries log times folder (stale options) named input output ending =
    AnswersStale known entries log times options output ending
Answers known entries log times folder (tests options) named input output ending =
    AnswersTests known entries times folder options named.tests named.since input output ending
Answers known entries log times folder (timings options) named input output ending =
    AnswersTimings options.dead known entries log times options output ending
Answers known entries log times folder (why options) named input output ending = AnswersWhy known entries options output ending

-- its options are refused before anything is read, and a line says why
abbrev pub Misuses : SubjectModel → (line : List ℕ) → Type 0
Misuses (affected options) line = MisusesAffected options line
Misuses (audit options) line = audit_misuse options ≡ Some line
Misuses (draw options) line = ⊥
Misuses json line = ⊥
Misuses (keys options) line = keys_misuse options ≡ Some line
Misuses (stale options) line = stale_misuse options ≡ Some line
Misuses (tests options) line = MisusesTests options line
Misuses (timings options) line = times_misuse options ≡ Some line
Misuses (why options) line = ⊥

-- its options are not refused
abbrev pub IsTaken : SubjectModel → Type 0
IsTaken (affected options) = TakesAffected options
IsTaken (audit options) = audit_misuse options ≡ None
IsTaken (draw options) = Unit {0}
IsTaken json = Unit {0}
IsTaken (keys options) = keys_misuse options ≡ None
IsTaken (stale options) = stale_misuse options ≡ None
IsTaken (tests options) = TakesTests options
IsTaken (timings options) = times_misuse options ≡ None
IsTaken (why options) = Unit {0}

-- what is answered before anything is read
abbrev pub listed : SubjectModel → Option (List ℕ)
listed (audit options) = kinds_listed options
listed other = None

-- a deps log is searched for inputs that edges do not declare
abbrev pub seeks_undeclared : SubjectModel → Bool
seeks_undeclared (audit options) = asks_for options UndeclaredInput
seeks_undeclared other = false

-- `stale` and `times` are answered by the build log too
abbrev pub takes_build_log : SubjectModel → Bool
takes_build_log (stale options) = true
takes_build_log (timings options) = true
takes_build_log other = false

-- ---- by its files

-- the states of two sources and of two sinks
pub record Around : Type 0 where
  pub sources : Sources
  pub sinks : Sinks

-- two sinks
abbrev pub sinks_of : (output error : SinkState) → Sinks
sinks_of output error = record { output = output; error = error }

-- all of them
abbrev pub around : (files built : SourceState) → (output error : SinkState) → Around
around files built output error = record { sources = sources_of files built; sinks = sinks_of output error }

-- the files of a question were read: those that its options name beside its graph, and then its graph
pub record ReadsFiles (question : QuestionModel) (times : DeclaredTimes) (folder : List ℕ) (old new : Sources) (known : DiscoveredGraph)
    (named : NamedFiles) : Type 0 where
  pub between : SourceState
  pub options : ReadsNamedFiles question.subject folder old.files between named
  pub graph : KnowsGraph question.graph (seeks_undeclared question.subject) times (sources_of between old.built) new known

-- they were not: one that its options name is not there, or else there is no graph
pub data LacksFiles (question : QuestionModel) (times : DeclaredTimes) (folder : List ℕ) (old new : Sources) (line : List ℕ) : Type 0 where
  no_option_files : LacksNamedFiles question.subject folder old.files new.files line → new.built ≡ old.built
      → LacksFiles question times folder old new line
  no_graph : {between : SourceState} (named : NamedFiles) → ReadsNamedFiles question.subject folder old.files between named
      → LacksGraph question.graph times (sources_of between old.built) new line → LacksFiles question times folder old new line

-- nothing is output, and a line says why, with this status
abbrev pub IsRefusal : (line : List ℕ) → Status → (output : List ℕ) → Ending → Type 0
IsRefusal line status output ending = (output ≡ []) × (ending ≡ refused line status)

-- a text is output, and nothing is to be said of it
abbrev pub IsText : (text : List ℕ) → (output : List ℕ) → Ending → Type 0
IsText text output ending = (output ≡ text) × (ending ≡ answered false [])

-- a build log without lines
abbrev pub no_lines : BuildLogModel
no_lines = record { version = None; lines = [] }

-- the build log is read, if the question takes it
abbrev pub TakesBuildLog : (takes : Bool) → List ReadStatement → (before after : SourceState) → BuildLogModel → Type 0
TakesBuildLog true entries before after log = ReadsBuildLog entries before after log
TakesBuildLog false entries before after log = (after ≡ before) × (log ≡ no_lines)

-- what the files of a question come to: those that its options name, a graph and its statements, and then a build log
pub record Knows (question : QuestionModel) (times : DeclaredTimes) (folder : List ℕ) (old new : Sources) (known : DiscoveredGraph)
    (entries : List ReadStatement) (log : BuildLogModel) (named : NamedFiles) : Type 0 where
  pub between : SourceState
  pub files : ReadsFiles question times folder old (sources_of new.files between) known named
  pub is : IsGraphOf known.graph entries
  pub takes : TakesBuildLog (takes_build_log question.subject) entries between new.built log

-- or why a file that options name is lacking, or the graph, or the build log
pub data Lacks (question : QuestionModel) (times : DeclaredTimes) (folder : List ℕ) (old new : Sources) : (line : List ℕ) → Type 0 where
  no_files : {line : List ℕ} → LacksFiles question times folder old new line → Lacks question times folder old new line
  no_build_log : {between : SourceState} {known : DiscoveredGraph} {entries : List ReadStatement} {named : NamedFiles} {line : List ℕ}
      → takes_build_log question.subject ≡ true
      → ReadsFiles question times folder old (sources_of new.files between) known named
      → IsGraphOf known.graph entries → LacksBuildLog entries between new.built line → Lacks question times folder old new line

-- Options are refused, or answered, before anything is read. Else the files are read, and the graph is asked; or a file is lacking, or
-- memory. Absolute paths below the working directory are the build's.
pub data Asks (question : QuestionModel) (times : DeclaredTimes) (folder : List ℕ) (input : List ℕ) (old new : Around)
    : Status → Type 0 where
  misused : {line : List ℕ} {status : Status} → Misuses question.subject line → new.sources ≡ old.sources
      → Ends (IsRefusal line Usage) old.sinks new.sinks status → Asks question times folder input old new status
  lists : {text : List ℕ} {status : Status} → listed question.subject ≡ Some text → new.sources ≡ old.sources
      → Ends (IsText text) old.sinks new.sinks status → Asks question times folder input old new status
  by_graph : {known : DiscoveredGraph} {entries : List ReadStatement} {log : BuildLogModel} {named : NamedFiles} {status : Status}
      → IsTaken question.subject → listed question.subject ≡ None
      → Knows question times folder old.sources new.sources known entries log named
      → Ends (Answers known entries log times folder question.subject named input) old.sinks new.sinks status
      → Asks question times folder input old new status
  lacks_files : {line : List ℕ} {status : Status} → IsTaken question.subject → listed question.subject ≡ None
      → Lacks question times folder old.sources new.sources line → Ends (IsRefusal line Fault) old.sinks new.sinks status
      → Asks question times folder input old new status
  lacks_memory : new.sinks.output ≡ old.sinks.output → Reported old.sinks.error new.sinks.error memory_line
      → Asks question times folder input old new Fault

-- ---- by its arguments

-- Arguments that are no question: help and the version are answers, and all else is refused.
abbrev pub Refuses : Refusal → (old new : Sinks) → Status → Type 0
Refuses (refusal.Help text) old new status =
    Ends (IsText (string_bytes text)) old new status
Refuses (refusal.Unparsed text) old new status = Ends (IsRefusal (string_bytes text) Usage) old new status
Refuses refusal.OldOption old new status =
    Ends (IsRefusal (program_line (codes "--deps-log is now --deps, which reads depfiles and times too")) Usage) old new status
Refuses refusal.OutOfMemory old new status =
    (new.output ≡ old.output) × Reported old.error new.error memory_line × (status ≡ Fault)
