-- How the code carries a question from its options to its report.
use Rattle.std.specs.Prelude.{◌≡◌, ℕ, true, Some, None, option_map, Result, Err, List, map}
use Rattle.std.specs.Global.{Vec}
use Rattle.nj_text.specs.Paths.{clean_path_of}
use Rattle.nj_build_log.specs.Logs.{BuildLogModel}
use Rattle.nj_scope.specs.Sources.{SourceState}
use Rattle.nj_discovered.specs.Times.{DeclaredTimes}
use Rattle.nj_graph.specs.ReadingList.{ReadStatement}
use Rattle.nj_tools.specs.Sinks.{SinkState}
use Rattle.nj_tests.specs.Tests.{test_model}
use Rattle.nj_questions.specs.Questions.{AffectedModel, AuditModel, KeysModel, TestsModel, QuestionModel}
use Rattle.nj_questions.specs.Questions.{SubjectModel, affected, audit, draw, json, keys, stale, tests, timings, why}
use Rattle.nj_questions.specs.Questions.{affected_model, audit_model, draw_model, keys_model, stale_model, tests_model, times_model, why_model}
use Rattle.nj_globs.specs.Globs.{GlobPart}
use Rattle.nj_changes.specs.Ignored.{AreGlobsOf}
use Rattle.nj_audit.specs.Kinds.{AskFor}
use Rattle.nj_audit.specs.declared.kinds.Kinds.{Kinds}
use Rattle.nj_ask.specs.declared.answer.Told.{Told}
use Rattle.nj_ask.specs.declared.asking.Task.{Task}
use Rattle.nj_ask.specs.declared.asking.Task.TheVariants as task
use Rattle.nj_ask.specs.declared.discovered.DiscoveredGraph.{DiscoveredGraph}
use Rattle.nj_ask.specs.declared.keys.PageAsked.{PageAsked}
use Rattle.nj_ask.specs.declared.option_files.OptionFiles.{OptionFiles}
use Rattle.nj_ask.specs.declared.failure.Failure.{Failure}
use Rattle.nj_ask.specs.declared.failure.Failure.TheVariants.{Refused, OutOfMemory}
use Rattle.nj_ask.specs.declared.status.Status.TheVariants.{Fault}
use Rattle.nj_ask.specs.Answers.{asked_mark, keys_misuse}
use Rattle.nj_ask.specs.Asks.{Answers, Knows, Lacks, TakesBuildLog, takes_build_log}
use Rattle.nj_ask.specs.BuildLogs.{LacksBuildLog}
use Rattle.nj_ask.specs.Audits.{audit_misuse, kinds_listed, selection_in}
use Rattle.nj_ask.specs.ChosenTests.{word_misuse}
use Rattle.nj_ask.specs.Given.{change_misuse}
use Rattle.nj_ask.specs.Inside.Failures.{Returns}
use Rattle.nj_ask.specs.KnownGraphs.{Sources}
use Rattle.nj_ask.specs.OptionFiles.{NamedFiles}
use Rattle.nj_ask.specs.Stales.{stale_misuse}
use Rattle.nj_ask.specs.Times.{times_misuse}

-- ---- what is asked

-- the globs of `--ignore` in accepted options
pub record AreGlobsAsked (options : AffectedModel) (globs : List (List GlobPart)) : Type 0 where
  pub allowed : change_misuse options ≡ None
  pub are : AreGlobsOf options.ignored globs

-- the bases and the mark of a page in accepted options
pub record IsPageAsked (options : KeysModel) (page : PageAsked) : Type 0 where
  pub allowed : keys_misuse options ≡ None
  pub bases : page.bases ≡ map clean_path_of options.bases
  pub mark : asked_mark options ≡ Some page.mark

-- the kinds that accepted options request
pub record IsAuditAsked (options : AuditModel) (kinds : Kinds) : Type 0 where
  pub asked : AskFor kinds (selection_in options)
  pub allowed : audit_misuse options ≡ None
  pub unlisted : kinds_listed options ≡ None

-- the globs of `--ignore` in accepted options
pub record AreTestsAsked (options : TestsModel) (globs : List (List GlobPart)) : Type 0 where
  pub words : word_misuse options ≡ None
  pub globs_are : AreGlobsAsked options.change globs

-- the subject of a task, whose options are accepted
abbrev pub IsTask : SubjectModel → Task → Type 0
IsTask subject (task.Affected options globs) =
    (subject ≡ affected (affected_model options.now)) × AreGlobsAsked (affected_model options.now) globs.items
IsTask subject (task.Audit options kinds) = (subject ≡ audit (audit_model options.now)) × IsAuditAsked (audit_model options.now) kinds
IsTask subject (task.Draw options) = subject ≡ draw (draw_model options.now)
IsTask subject task.Json = subject ≡ json
IsTask subject (task.Keys options page) = (subject ≡ keys (keys_model options.now)) × IsPageAsked (keys_model options.now) page
IsTask subject (task.Stale options) = (subject ≡ stale (stale_model options.now)) × (stale_misuse (stale_model options.now) ≡ None)
IsTask subject (task.Tests options globs) =
    (subject ≡ tests (tests_model options.now)) × AreTestsAsked (tests_model options.now) globs.items
IsTask subject (task.Times options) = (subject ≡ timings (times_model options.now)) × (times_misuse (times_model options.now) ≡ None)
IsTask subject (task.Why options) = subject ≡ why (why_model options.now)

-- a task with accepted options
abbrev pub IsGiven : Task → Type 0
IsGiven asked = (subject : SubjectModel) × IsTask subject asked

-- what was read from the files that options name
abbrev pub named_files : OptionFiles → NamedFiles
named_files named = record {
  tests = map test_model named.tests.items;
  additions = map (λ addition. addition.items) named.additions.items;
  since = option_map (λ text. text.items) named.since;
}

-- ---- what is answered

-- the answer to a task, whatever its subject
abbrev pub AnswersTask : DiscoveredGraph → List ReadStatement → BuildLogModel → DeclaredTimes → (folder : List ℕ) → Task → NamedFiles
    → (input : List ℕ) → (old new : SinkState) → Result Told Failure → Type 0
AnswersTask known entries log times folder asked named input old new told =
    (subject : SubjectModel) → IsTask subject asked → Returns (Answers known entries log times folder subject named input) old new told

-- the build log is read if it is taken, and then the graph answers; or there is none
pub data LeavesAnswer (known : DiscoveredGraph) (entries : List ReadStatement) (times : DeclaredTimes) (folder : List ℕ)
    (subject : SubjectModel) (named : NamedFiles) (input : List ℕ) (before after : SourceState) (out out_new : SinkState) :
    Result Told Failure → Type 0 where
  answers : (log : BuildLogModel) {told : Result Told Failure}
      → TakesBuildLog (takes_build_log subject) entries before after log
      → Returns (Answers known entries log times folder subject named input) out out_new told
      → LeavesAnswer known entries times folder subject named input before after out out_new told
  lacks_log : {line : Vec ℕ} → takes_build_log subject ≡ true → LacksBuildLog entries before after line.items → out_new ≡ out
      → LeavesAnswer known entries times folder subject named input before after out out_new (Err (Refused line Fault))
  lacks_memory : out_new ≡ out
      → LeavesAnswer known entries times folder subject named input before after out out_new (Err OutOfMemory)

-- ---- what is left to report

-- of a question whose options are accepted
pub data LeavesTold (question : QuestionModel) (times : DeclaredTimes) (folder : List ℕ) (input : List ℕ) (old new : Sources)
    (out out_new : SinkState) : Result Told Failure → Type 0 where
  tells : {known : DiscoveredGraph} {entries : List ReadStatement} {log : BuildLogModel} {named : NamedFiles} {told : Result Told Failure}
      → Knows question times folder old new known entries log named
      → Returns (Answers known entries log times folder question.subject named input) out out_new told
      → LeavesTold question times folder input old new out out_new told
  tells_why : {line : Vec ℕ} → Lacks question times folder old new line.items → out_new ≡ out
      → LeavesTold question times folder input old new out out_new (Err (Refused line Fault))
  tells_memory : out_new ≡ out → LeavesTold question times folder input old new out out_new (Err OutOfMemory)
