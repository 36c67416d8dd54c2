-- When two runs of one question end alike.
use Rattle.std.specs.Prelude.{◌≡◌, ◌⊎◌, ℕ, Result, Ok, Err, List, ◌++◌}
use Rattle.nj_scope.specs.ReadingList.{ReadStatement}
use Rattle.nj_build_log.specs.Logs.{BuildLogModel}
use Rattle.nj_discovered.specs.Times.{DeclaredTimes}
use Rattle.nj_tools.specs.Sinks.{SinkState, FailsWithin}
use Rattle.nj_questions.specs.Questions.{QuestionModel, SubjectModel, question_model}
use Rattle.nj_questions.specs.QuestionOf.{RefusalModel, question_of, out_of_memory, old_option, shows_help, unparsed}
use Rattle.nj_questions.specs.declared.questions.Question.{Question}
use Rattle.nj_questions.specs.declared.refusals.Refusal.{Refusal}
use Rattle.nj_ask.specs.declared.discovered.DiscoveredGraph.{DiscoveredGraph}
use Rattle.nj_ask.specs.declared.status.Status.{Status}
use Rattle.nj_ask.specs.declared.status.Status.TheVariants.{Fault, OutputFailed, Usage}
use Rattle.nj_ask.specs.Asks.{Around, IsRefusal, Knows, Lacks}
use Rattle.nj_ask.specs.Endings.{Ending, Ends, Reported, Sinks, memory_line, program_line}
use Rattle.nj_ask.specs.KnownGraphs.{Sources}
use Rattle.nj_ask.specs.OptionFiles.{NamedFiles}
use Rattle.nj_one_answer.specs.Answers.{SameKnown, SameOutput, TellTimes}
use Rattle.nj_one_answer.specs.Sinks.{SameSinks}

-- ---- sinks

-- the sink failed within a text
abbrev pub Failed : (old new : SinkState) → Type 0
Failed old new = (text : List ℕ) × FailsWithin old new text

-- two sinks received the same, unless one of them failed
abbrev pub SameUnlessFailed : (old one other : SinkState) → Type 0
SameUnlessFailed old one other = Failed old one ⊎ (Failed old other ⊎ SameSinks old one other)

-- A line says what cannot be done, and then why, in the words of the system. Two lines begin alike; or memory ran out for one of them.
pub data SameErrors (what : List ℕ) (old one other : SinkState) : Type 0 where
  reported : (why more : List ℕ) → Reported old one (program_line (what ++ why)) → Reported old other (program_line (what ++ more))
      → SameErrors what old one other
  lacked_memory : Reported old one memory_line ⊎ Reported old other memory_line → SameErrors what old one other

-- ---- endings

-- the given output and the given ending
abbrev pub IsJust : (output : List ℕ) → Ending → (other : List ℕ) → (end : Ending) → Type 0
IsJust output ending other end = (other ≡ output) × (end ≡ ending)

-- Two runs have the same output and ending, and each ends as it can with them: its sinks receive both, or a sink fails, or memory runs out.
pub record EndAlike (Same : (output other : List ℕ) → Type 0) (old one other : Sinks) (status end : Status) : Type 0 where
  pub output : List ℕ
  pub other_output : List ℕ
  pub same : Same output other_output
  pub ending : Ending
  pub one_ends : Ends (IsJust output ending) old one status
  pub other_ends : Ends (IsJust other_output ending) old other end

-- the run was cut off: a sink failed, or memory ran out
pub data IsCutOff (old new : Sinks) : Status → Type 0 where
  output_failed : Failed old.output new.output → new.error ≡ old.error → IsCutOff old new OutputFailed
  error_failed : {status : Status} → Failed old.error new.error → IsCutOff old new status
  lacked_memory : Reported old.error new.error memory_line → IsCutOff old new Fault

-- both sinks received the same, and the statuses are the same
pub record SameRuns (old one other : Sinks) (status end : Status) : Type 0 where
  pub output : SameSinks old.output one.output other.output
  pub error : SameSinks old.error one.error other.error
  pub status_is : status ≡ end

-- Two runs that end alike with one output are the same, unless one was cut off.
abbrev pub AlikeRunsAreSame : Type 0
AlikeRunsAreSame = (old one other : Sinks) (status end : Status) → EndAlike (λ a b. a ≡ b) old one other status end
    → IsCutOff old one status ⊎ (IsCutOff old other end ⊎ SameRuns old one other status end)

-- nothing was output, and it was reported that memory ran out
pub record LacksMemory (old new : Sinks) (status : Status) : Type 0 where
  pub output : new.output ≡ old.output
  pub error : Reported old.error new.error memory_line
  pub status_is : status ≡ Fault

-- ---- questions

-- what the files of a question come to: a graph, its statements, a build log and what the files that options name come to, or a line
-- that says why one is lacking
pub data FilesRead : Type 0 where
  graph : DiscoveredGraph → List ReadStatement → BuildLogModel → NamedFiles → FilesRead
  no_graph : (line : List ℕ) → FilesRead

-- they come to the given result
abbrev pub ComeTo : QuestionModel → DeclaredTimes → (folder : List ℕ) → (old new : Sources) → FilesRead → Type 0
ComeTo question times folder old new (graph known entries log named) = Knows question times folder old new known entries log named
ComeTo question times folder old new (no_graph line) = Lacks question times folder old new line

-- they come to the same graph, statements, build log and named files, or to the same line
abbrev pub SameFiles : (one other : FilesRead) → Type 0
SameFiles (graph known entries log named) (graph other more log2 also) =
    SameKnown known other × (entries ≡ more) × (log ≡ log2) × (named ≡ also)
SameFiles (graph known entries log named) (no_graph line) = ⊥
SameFiles (no_graph line) (graph known entries log named) = ⊥
SameFiles (no_graph line) (no_graph more) = line ≡ more

-- outputs for a question about files that come to the given result
abbrev pub SameFor : SubjectModel → FilesRead → (output other : List ℕ) → Type 0
SameFor subject (graph known entries log named) output other = SameOutput known subject output other
SameFor subject (no_graph line) output other = output ≡ other

-- the times are declared where an answer by these files needs them
abbrev pub TellFor : SubjectModel → FilesRead → DeclaredTimes → Type 0
TellFor subject (graph known entries log named) times = TellTimes subject named times
TellFor subject (no_graph line) times = Unit {0}

-- Two runs of a question: both end alike before anything is read; or both read the files, and end alike if the files come to the same; or
-- memory runs out for one of them.
pub data AskAlike (question : QuestionModel) (times : DeclaredTimes) (folder : List ℕ) (old one other : Around) (status end : Status) : Type 0 where
  unread : one.sources ≡ old.sources → other.sources ≡ old.sources
      → EndAlike (λ a b. a ≡ b) old.sinks one.sinks other.sinks status end → AskAlike question times folder old one other status end
  read : (files more : FilesRead) → ComeTo question times folder old.sources one.sources files
      → ComeTo question times folder old.sources other.sources more
      → (SameFiles files more → TellFor question.subject files times
      → EndAlike (SameFor question.subject files) old.sinks one.sinks other.sinks status end)
      → AskAlike question times folder old one other status end
  lacked_memory : LacksMemory old.sinks one.sinks status ⊎ LacksMemory old.sinks other.sinks end
      → AskAlike question times folder old one other status end

-- ---- arguments that are not a question

-- both refuse alike, or memory ran out when the arguments were read
pub data RefuseAlike (old one other : Sinks) (status end : Status) : Type 0 where
  ended : EndAlike (λ a b. a ≡ b) old one other status end → RefuseAlike old one other status end
  lacked_memory : LacksMemory old one status → LacksMemory old other end → RefuseAlike old one other status end

-- two runs of arguments that were read
abbrev pub ReadAlike : Result Question Refusal → DeclaredTimes → (folder : List ℕ) → (old one other : Around) → (status end : Status) → Type 0
ReadAlike (Ok question) times folder old one other status end = AskAlike (question_model question) times folder old one other status end
ReadAlike (Err refused) times folder old one other status end =
    (one.sources ≡ old.sources) × (other.sources ≡ old.sources) × RefuseAlike old.sinks one.sinks other.sinks status end

-- Two refusals of the same arguments. The wording of help, and of what is wrong with arguments, is left open.
abbrev pub RefuseWordsAlike : RefusalModel → (old one other : Sinks) → (status end : Status) → Type 0
RefuseWordsAlike out_of_memory old one other status end = LacksMemory old one status × LacksMemory old other end
RefuseWordsAlike old_option old one other status end = EndAlike (λ a b. a ≡ b) old one other status end
RefuseWordsAlike shows_help old one other status end = EndAlike (λ a b. Unit {0}) old one other status end
RefuseWordsAlike unparsed old one other status end =
    (line more : List ℕ) × Ends (IsRefusal line Usage) old one status × Ends (IsRefusal more Usage) old other end

-- two runs of arguments
pub data AskWordsAlike (words : List (List ℕ)) (times : DeclaredTimes) (folder : List ℕ) (old one other : Around) (status end : Status) : Type 0 where
  asked : {question : QuestionModel} → question_of words ≡ Ok question → AskAlike question times folder old one other status end
      → AskWordsAlike words times folder old one other status end
  refused : {refusal : RefusalModel} → question_of words ≡ Err refusal → one.sources ≡ old.sources → other.sources ≡ old.sources
      → RefuseWordsAlike refusal old.sinks one.sinks other.sinks status end → AskWordsAlike words times folder old one other status end
  lacked_memory : LacksMemory old.sinks one.sinks status ⊎ LacksMemory old.sinks other.sinks end
      → AskWordsAlike words times folder old one other status end
