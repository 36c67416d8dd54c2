-- How a question ends, by what is left to report.
use Rattle.std.proofs.Common.{◌≡◌, ◌∙◌, ℕ, Bool, Bor, List, [], true, false, cond, Some, None, unwrap_or}
use Rattle.std.proofs.Common.{Result, Err}
use Rattle.std.proofs.Common.{inl}
use Rattle.std.proofs.Common.{refl, sym, ap, subst}
use Rattle.nj_discovered.specs.Times.{DeclaredTimes}
use Rattle.nj_build_log.specs.Logs.{BuildLogModel}
use Rattle.nj_scope.specs.Sources.{SourceState}
use Rattle.nj_graph.specs.Graph.{IsGraphOf}
use Rattle.nj_tools.specs.Sinks.{FailsWithin, SinkState, Takes}
use Rattle.nj_tools.proofs.SinkLemmas.{Takes-nil}
use Rattle.nj_questions.specs.Questions.{QuestionModel, SubjectModel, affected, audit, draw, json, keys}
use Rattle.nj_questions.specs.Questions.{stale, tests, timings, why}
use Rattle.nj_questions.specs.Questions.{affected_model, audit_model, draw_model, keys_model, stale_model}
use Rattle.nj_questions.specs.Questions.{tests_model, times_model, why_model}
use Rattle.nj_questions.specs.Questions.{reads_nothing}
use Rattle.nj_questions.specs.declared.questions.AffectedOptions.{AffectedOptions}
use Rattle.nj_questions.specs.declared.questions.AuditOptions.{AuditOptions}
use Rattle.nj_questions.specs.declared.questions.DrawOptions.{DrawOptions}
use Rattle.nj_questions.specs.declared.questions.KeysOptions.{KeysOptions}
use Rattle.nj_questions.specs.declared.questions.StaleOptions.{StaleOptions}
use Rattle.nj_questions.specs.declared.questions.TestsOptions.{TestsOptions}
use Rattle.nj_questions.specs.declared.questions.TimesOptions.{TimesOptions}
use Rattle.nj_questions.specs.declared.questions.WhyOptions.{WhyOptions}
use Rattle.nj_graph.specs.ReadingList.{ReadStatement}
use Rattle.nj_ask.specs.declared.discovered.DiscoveredGraph.{DiscoveredGraph}
use Rattle.nj_ask.specs.declared.answer.Told.{Told}
use Rattle.nj_ask.specs.declared.asking.Task.{Task}
use Rattle.nj_ask.specs.declared.asking.Task.TheVariants as task
use Rattle.nj_ask.specs.declared.failure.Failure.{Failure}
use Rattle.nj_ask.specs.declared.failure.Failure.TheVariants.{Refused, Write, OutOfMemory}
use Rattle.nj_ask.specs.declared.keys.PageAsked.{PageAsked}
use Rattle.nj_ask.specs.declared.status.Status.{Status}
use Rattle.nj_ask.specs.declared.status.Status.TheVariants.{Done, Fault, OutputFailed, Usage}
use Rattle.nj_ask.specs.Answers.{AnswersAffected, AnswersDraw, AnswersKeys, AnswersWhy}
use Rattle.std.specs.Global.{Vec}
use Rattle.nj_globs.specs.Globs.{GlobPart}
use Rattle.nj_audit.specs.declared.kinds.Kinds.{Kinds}
use Rattle.nj_ask.specs.Audits.{AnswersAudit, kind_lines}
use Rattle.nj_ask.specs.Asks.{Answers, Around, Asks, IsRefusal, IsTaken, LacksFiles, Misuses, ReadsFiles}
use Rattle.nj_ask.specs.Asks.{listed, takes_build_log}
use Rattle.nj_ask.specs.Asks.Lacks.{no_files, no_build_log}
use Rattle.nj_ask.specs.Asks.Asks.{by_graph, lacks_files, lacks_memory, misused}
use Rattle.nj_ask.specs.BuildLogs.{LacksBuildLog}
use Rattle.nj_ask.specs.ChosenTests.{AnswersTests}
use Rattle.nj_ask.specs.Endings.{Ends, Reported, Sinks, answered}
use Rattle.nj_ask.specs.Endings.Ends.{ended, output_fails}
use Rattle.nj_ask.specs.KnownGraphs.{Sources, sources_of}
use Rattle.nj_ask.specs.OptionFiles.{NamedFiles}
use Rattle.nj_ask.specs.Stales.{AnswersStale}
use Rattle.nj_ask.specs.Times.{AnswersTimings}
use Rattle.nj_ask.specs.Inside.Asking.{IsTask, LeavesAnswer, LeavesTold}
use Rattle.nj_ask.specs.Inside.Asking.LeavesAnswer.{answers, lacks_log, lacks_memory as no_memory}
use Rattle.nj_ask.specs.Inside.Asking.LeavesTold.{tells, tells_memory, tells_why}
use Rattle.nj_ask.specs.Inside.Failures.{Returns}
use Rattle.nj_ask.specs.Inside.Failures.{ConcludesTold, FailsBy}
use Rattle.nj_ask.proofs.EndingLemmas.{ends-concluded}

-- ---- refusals

-- where nothing is output, and a line is reported
pub ends-refused : (line : List ℕ) (given status : Status) (old new : Sinks) → new.output ≡ old.output
    → Reported old.error new.error line → status ≡ given → Ends (IsRefusal line given) old new status
ends-refused line given status old new same reported is =
    ended (refl, refl) (subst (λ s. Takes old.output s []) (sym same) (Takes-nil old.output)) (reported, is)

-- where a text is the whole answer
pub ends-shown : {old new : Sinks} (text taken : List ℕ) → taken ≡ text → Takes old.output new.output taken
    → new.error ≡ old.error → Ends (λ output ending. (output ≡ text) × (ending ≡ answered false [])) old new
    Done
ends-shown {old} {new} text taken same takes error =
    ended (same, refl) takes (inl (subst (λ s. Takes old.error s []) (sym error) (Takes-nil old.error), refl))

-- and standard output fails
pub ends-unshown : {old new : Sinks} (text taken : List ℕ) → taken ≡ text
    → FailsWithin old.output new.output taken
    → new.error ≡ old.error → Ends (λ output ending. (output ≡ text) × (ending ≡ answered false [])) old new
    OutputFailed
ends-unshown text taken same fails error = output_fails {ending = answered false []} (same, refl) fails error

-- ---- tasks

-- the options of a task are not refused
pub task-taken : (subject : SubjectModel) (asked : Task) → IsTask subject asked → IsTaken subject
task-taken subject (task.Affected options globs) is =
    rw is.0 (record { words = is.1.allowed; globs = globs.items; are_globs = is.1.are })
task-taken subject (task.Audit options kinds) is = rw is.0 is.1.allowed
task-taken subject (task.Draw options) is = rw is tt
task-taken subject task.Json is = rw is tt
task-taken subject (task.Keys options page) is = rw is.0 is.1.allowed
task-taken subject (task.Stale options) is = rw is.0 is.1
task-taken subject (task.Tests options globs) is = rw is.0 (record {
  words = is.1.words;
  change = record {
    words = is.1.globs_are.allowed;
    globs = globs.items;
    are_globs = is.1.globs_are.are;
  };
})
task-taken subject (task.Times options) is = rw is.0 is.1
task-taken subject (task.Why options) is = rw is tt

-- and nothing is answered before files are read
pub task-unlisted : (subject : SubjectModel) (asked : Task) → IsTask subject asked → listed subject ≡ None
task-unlisted subject (task.Affected options globs) is = rw is.0 refl
task-unlisted subject (task.Audit options kinds) is = rw is.0 is.1.unlisted
task-unlisted subject (task.Draw options) is = rw is refl
task-unlisted subject task.Json is = rw is refl
task-unlisted subject (task.Keys options page) is = rw is.0 refl
task-unlisted subject (task.Stale options) is = rw is.0 refl
task-unlisted subject (task.Tests options globs) is = rw is.0 refl
task-unlisted subject (task.Times options) is = rw is.0 refl
task-unlisted subject (task.Why options) is = rw is refl

-- where nothing is read, the kinds of findings are listed
pub listed-kinds : (subject : SubjectModel) → reads_nothing subject ≡ true → listed subject ≡ Some kind_lines
listed-kinds (affected options) is = absurd cc
listed-kinds (audit options) is = ap (λ b. cond b (Some kind_lines) None) is
listed-kinds (draw options) is = absurd cc
listed-kinds json is = absurd cc
listed-kinds (keys options) is = absurd cc
listed-kinds (stale options) is = absurd cc
listed-kinds (tests options) is = absurd cc
listed-kinds (timings options) is = absurd cc
listed-kinds (why options) is = absurd cc

-- else nothing is
pub none-listed : (subject : SubjectModel) → reads_nothing subject ≡ false → listed subject ≡ None
none-listed (affected options) is = refl
none-listed (audit options) is = ap (λ b. cond b (Some kind_lines) None) is
none-listed (draw options) is = refl
none-listed json is = refl
none-listed (keys options) is = refl
none-listed (stale options) is = refl
none-listed (tests options) is = refl
none-listed (timings options) is = refl
none-listed (why options) is = refl

-- what is answered to the task is answered to its subject
module _ (known : DiscoveredGraph) (entries : List ReadStatement) (log : BuildLogModel)
    (times : DeclaredTimes) (folder : List ℕ) (named : NamedFiles)
    (input : List ℕ) (old new : SinkState) (reported : Result Told Failure) (subject : SubjectModel)
    (asked : Task) where
  pub affected-returns : (options : Bor AffectedOptions) (globs : Vec (List GlobPart))
      → asked ≡ task.Affected options globs
      → IsTask subject asked
      → Returns (AnswersAffected known entries times folder (affected_model options.now) named.since input)
      old new
      reported
      → Returns (Answers known entries log times folder subject named input) old new reported
  affected-returns options globs same is returns = rw (subst (IsTask subject) same is).0 returns

  pub audit-returns : (options : Bor AuditOptions) (kinds : Kinds) → asked ≡ task.Audit options kinds
      → IsTask subject asked
      → Returns (AnswersAudit known entries times folder (audit_model options.now)) old new reported
      → Returns (Answers known entries log times folder subject named input) old new reported
  audit-returns options kinds same is returns = rw (subst (IsTask subject) same is).0 returns

  pub draw-returns : (options : Bor DrawOptions) → asked ≡ task.Draw options → IsTask subject asked
      → Returns (AnswersDraw known entries (draw_model options.now)) old new reported
      → Returns (Answers known entries log times folder subject named input) old new reported
  draw-returns options same is returns = rw (subst (IsTask subject) same is) returns

  pub why-returns : (options : Bor WhyOptions) → asked ≡ task.Why options → IsTask subject asked
      → Returns (AnswersWhy known entries (why_model options.now)) old new reported
      → Returns (Answers known entries log times folder subject named input) old new reported
  why-returns options same is returns = rw (subst (IsTask subject) same is) returns

  pub stale-returns : (options : Bor StaleOptions) → asked ≡ task.Stale options → IsTask subject asked
      → Returns (AnswersStale known entries log times (stale_model options.now)) old new reported
      → Returns (Answers known entries log times folder subject named input) old new reported
  stale-returns options same is returns = rw (subst (IsTask subject) same is).0 returns

  pub times-returns : (options : Bor TimesOptions) → asked ≡ task.Times options → IsTask subject asked
      → Returns (AnswersTimings (times_model options.now).dead known entries log times
      (times_model options.now)) old new
      reported
      → Returns (Answers known entries log times folder subject named input) old new reported
  times-returns options same is returns = rw (subst (IsTask subject) same is).0 returns

  pub keys-returns : (options : Bor KeysOptions) (page : PageAsked) → asked ≡ task.Keys options page
      → IsTask subject asked
      → Returns (AnswersKeys known entries (keys_model options.now) named.additions page.mark) old new
      reported
      → Returns (Answers known entries log times folder subject named input) old new reported
  keys-returns options page same is returns =
      let asks = subst (IsTask subject) same is in
      rw asks.0
      (subst (λ mark. Returns (AnswersKeys known entries (keys_model options.now) named.additions
      (unwrap_or mark [])) old new
      reported)
      (sym asks.1.mark) returns)

  pub tests-returns : (options : Bor TestsOptions) (globs : Vec (List GlobPart))
      → asked ≡ task.Tests options globs
      → IsTask subject asked
      → Returns (AnswersTests known entries times folder (tests_model options.now) named.tests named.since
      input)
      old new
      reported
      → Returns (Answers known entries log times folder subject named input) old new reported
  tests-returns options globs same is returns = rw (subst (IsTask subject) same is).0 returns

-- ---- questions

module _ (question : QuestionModel) (times : DeclaredTimes) (folder input : List ℕ) (old new : Around) where
  -- options that are refused
  pub asks-misused : (failure : Failure) (status : Status)
      → FailsBy Usage (Misuses question.subject) failure
      → new.sources ≡ old.sources → new.sinks.output ≡ old.sinks.output
      → ConcludesTold (Err failure) old.sinks.error new.sinks.error status
      → Asks question times folder input old new status
  asks-misused (Refused line given) status fails sources output concludes =
      misused fails.0 sources
      (ends-refused line.items Usage status old.sinks new.sinks output concludes.0
      (rw (sym fails.1) concludes.1))
  asks-misused Write status fails sources output concludes = absurd fails
  asks-misused OutOfMemory status fails sources output concludes =
      subst (Asks question times folder input old new) (sym concludes.1) (lacks_memory output concludes.0)

  -- what is left to report of the others
  pub asks-told : (reported : Result Told Failure) (status : Status) → IsTaken question.subject
      → listed question.subject ≡ None
      → LeavesTold question times folder input old.sources new.sources old.sinks.output new.sinks.output
      reported
      → ConcludesTold reported old.sinks.error new.sinks.error status
      → Asks question times folder input old new status
  asks-told reported status taken unlisted (tells {known} {entries} {log} {named} knows returns) concludes =
      by_graph taken unlisted knows
      (ends-concluded (Answers known entries log times folder question.subject named input) old.sinks
      new.sinks reported
      status
      returns concludes)
  asks-told reported status taken unlisted (tells_why {line} lacks output) concludes =
      lacks_files taken unlisted lacks
      (ends-refused line.items Fault status old.sinks new.sinks output concludes.0 concludes.1)
  asks-told reported status taken unlisted (tells_memory output) concludes =
      subst (Asks question times folder input old new) (sym concludes.1) (lacks_memory output concludes.0)

-- where there is no graph
pub tells-lacking : (question : QuestionModel) (times : DeclaredTimes) (folder input : List ℕ)
    (old new : Sources)
    (out : SinkState)
    (failure : Failure) → FailsBy Fault (LacksFiles question times folder old new) failure
    → LeavesTold question times folder input old new out out (Err failure)
tells-lacking question times folder input old new out (Refused line given) fails =
    subst (λ s. LeavesTold question times folder input old new out out (Err (Refused line s))) (sym fails.1)
    (tells_why (no_files fails.0) refl)
tells-lacking question times folder input old new out Write fails = absurd fails
tells-lacking question times folder input old new out OutOfMemory fails = tells_memory refl

-- where there is one
pub tells-answer : (question : QuestionModel) (times : DeclaredTimes) (folder input : List ℕ)
    (old new : Sources) (between : SourceState) (out out_new : SinkState) (known : DiscoveredGraph)
    (entries : List ReadStatement) (named : NamedFiles) (reported : Result Told Failure)
    → ReadsFiles question times folder old (sources_of new.files between) known named
    → IsGraphOf known.graph entries
    → LeavesAnswer known entries times folder question.subject named input between new.built out out_new
    reported
    → LeavesTold question times folder input old new out out_new reported
tells-answer question times folder input old new between out out_new known entries named reported reads is
    (answers log takes returns) =
    tells {known = known} {entries = entries} {log = log} {named = named}
    (record { between = between; files = reads; is = is; takes = takes }) returns
tells-answer question times folder input old new between out out_new known entries named reported reads is
    (lacks_log takes lacks same) = tells_why (no_build_log takes reads is lacks) same
tells-answer question times folder input old new between out out_new known entries named reported reads is
    (no_memory same) = tells_memory same

-- where there is no build log
pub leaves-lacking : (known : DiscoveredGraph) (entries : List ReadStatement) (times : DeclaredTimes)
    (folder : List ℕ)
    (subject : SubjectModel) (named : NamedFiles) (input : List ℕ) (before after : SourceState)
    (out : SinkState) (takes : Bool)
    (failure : Failure) → takes ≡ takes_build_log subject
    → FailsBy Fault (λ line. (takes ≡ true) × LacksBuildLog entries before after line) failure
    → LeavesAnswer known entries times folder subject named input before after out out (Err failure)
leaves-lacking known entries times folder subject named input before after out takes (Refused line given) same
    fails =
    subst (λ s. LeavesAnswer known entries times folder subject named input before after out out
    (Err (Refused line s)))
    (sym fails.1) (lacks_log (sym same ∙ fails.0.0) fails.0.1 refl)
leaves-lacking known entries times folder subject named input before after out takes Write same fails =
    absurd fails
leaves-lacking known entries times folder subject named input before after out takes OutOfMemory same fails =
    no_memory refl
