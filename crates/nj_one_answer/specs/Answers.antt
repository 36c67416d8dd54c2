-- When two answers to one question about a graph are the same.
use Rattle.std.specs.Prelude.{◌≡◌, ℕ, Bool, true, false, Option, is_some, Ok, List, map}
use Rattle.nj_scope.specs.ReadingList.{ReadStatement}
use Rattle.nj_build_log.specs.Logs.{BuildLogModel}
use Rattle.nj_discovered.specs.Times.{DeclaredTimes}
use Rattle.nj_graph.specs.Graph.{IsGraphOf}
use Rattle.nj_graph.specs.Handles.{GraphEdge, files_in}
use Rattle.nj_tests.specs.Tests.{TestModel}
use Rattle.nj_questions.specs.Questions.{AffectedModel, AuditModel, DrawModel, KeysModel, StaleModel, TestsModel, TimesModel}
use Rattle.nj_questions.specs.Questions.{WhyModel, SubjectModel, affected, audit, draw, stale, tests, timings}
use Rattle.nj_ask.specs.declared.discovered.DiscoveredGraph.{DiscoveredGraph}
use Rattle.nj_ask.specs.Answers.{AnswersAffected, AnswersDraw, AnswersJson, AnswersKeys, AnswersWhy, asked_targets}
use Rattle.nj_ask.specs.Asks.{Answers, IsTaken, Misuses}
use Rattle.nj_ask.specs.Audits.{AnswersAudit}
use Rattle.nj_ask.specs.ChosenTests.{AnswersTests}
use Rattle.nj_ask.specs.Drawings.{drawing_text}
use Rattle.nj_ask.specs.DrawnNodes.{drawn_nodes}
use Rattle.nj_ask.specs.Endings.{Ending}
use Rattle.nj_ask.specs.OptionFiles.{NamedFiles}
use Rattle.nj_ask.specs.Stales.{AnswersStale}
use Rattle.nj_ask.specs.Times.{AnswersTimings}
use Rattle.nj_agreement.specs.Graphs.{SameButTies}
use Rattle.nj_agreement.specs.Sources.{TellAll}

-- only one output and one ending answer a question
abbrev pub HasOneAnswer : (Is : (output : List ℕ) → Ending → Type 0) → Type 0
HasOneAnswer Is = (output other : List ℕ) (ending end : Ending) → Is output ending → Is other end → (output ≡ other) × (ending ≡ end)

-- ---- by subcommand, about one graph and its statements

-- the times are declared for all paths, if they are needed
abbrev pub TellIf : (needed : Bool) → DeclaredTimes → Type 0
TellIf true times = TellAll times
TellIf false times = Unit {0}

-- `affected`, with the text of `--since`
abbrev pub OneAffectedAnswer : Type 0
OneAffectedAnswer = (known : DiscoveredGraph) (entries : List ReadStatement) (times : DeclaredTimes) (folder : List ℕ)
    (options : AffectedModel) (since : Option (List ℕ)) (input : List ℕ) → TellIf (is_some since) times
    → HasOneAnswer (AnswersAffected known entries times folder options since input)

-- `audit`, by times that are declared for all paths
abbrev pub OneAuditAnswer : Type 0
OneAuditAnswer = (known : DiscoveredGraph) (entries : List ReadStatement) (times : DeclaredTimes) (folder : List ℕ)
    (options : AuditModel) → TellAll times → HasOneAnswer (AnswersAudit known entries times folder options)

-- `json`
abbrev pub OneJsonAnswer : Type 0
OneJsonAnswer = (known : DiscoveredGraph) (entries : List ReadStatement) → HasOneAnswer (AnswersJson known entries)

-- `keys`, from a mark on, with additions for the contents of files
abbrev pub OneKeysAnswer : Type 0
OneKeysAnswer = (known : DiscoveredGraph) (entries : List ReadStatement) (options : KeysModel) (contents : List (List ℕ))
    (mark : List ℕ) → IsGraphOf known.graph entries → HasOneAnswer (AnswersKeys known entries options contents mark)

-- `stale`, by times that are declared of all paths
abbrev pub OneStaleAnswer : Type 0
OneStaleAnswer = (known : DiscoveredGraph) (entries : List ReadStatement) (log : BuildLogModel) (times : DeclaredTimes)
    (options : StaleModel) → IsGraphOf known.graph entries → TellAll times
    → HasOneAnswer (AnswersStale known entries log times options)

-- `tests`, about one list of tests, with the text of `--since`
abbrev pub OneTestsAnswer : Type 0
OneTestsAnswer = (known : DiscoveredGraph) (entries : List ReadStatement) (times : DeclaredTimes) (folder : List ℕ)
    (options : TestsModel) (tests : List TestModel) (since : Option (List ℕ)) (input : List ℕ) → TellIf (is_some since) times
    → HasOneAnswer (AnswersTests known entries times folder options tests since input)

-- `times`
abbrev pub OneTimesAnswer : Type 0
OneTimesAnswer = (known : DiscoveredGraph) (entries : List ReadStatement) (log : BuildLogModel) (times : DeclaredTimes)
    (options : TimesModel) → TellIf options.dead times → HasOneAnswer (AnswersTimings options.dead known entries log times options)

-- `why`
abbrev pub OneWhyAnswer : Type 0
OneWhyAnswer = (known : DiscoveredGraph) (entries : List ReadStatement) (options : WhyModel)
    → HasOneAnswer (AnswersWhy known entries options)

-- ---- `draw`

-- the drawing of the given edges for the given files
abbrev pub drawing_of : DiscoveredGraph → DrawModel → (files : List (List ℕ)) → List GraphEdge → List ℕ
drawing_of known options files edges =
    drawing_text known.discoveries.items options.fold (drawn_nodes options (files_in known.graph files) edges) edges

-- Two texts are the same; or they are drawings, without `--affected`, of the edges that the targets need, nearest first. So only edges
-- that are equally far from the targets may have changed places.
pub data SameDrawing (known : DiscoveredGraph) (options : DrawModel) (one other : List ℕ) : Type 0 where
  same : one ≡ other → SameDrawing known options one other
  but_ties : {files : List (List ℕ)} {edges others : List GraphEdge} → options.affected ≡ false
      → asked_targets known.graph options.targets ≡ Ok files → SameButTies known.graph files edges others
      → one ≡ drawing_of known options files edges → other ≡ drawing_of known options files others
      → SameDrawing known options one other

-- `draw`
abbrev pub OneDrawAnswer : Type 0
OneDrawAnswer = (known : DiscoveredGraph) (entries : List ReadStatement) (options : DrawModel) (output other : List ℕ)
    (ending end : Ending) → AnswersDraw known entries options output ending → AnswersDraw known entries options other end
    → SameDrawing known options output other × (ending ≡ end)

-- `draw --affected`
abbrev pub OneAffectedDrawing : Type 0
OneAffectedDrawing = (known : DiscoveredGraph) (entries : List ReadStatement) (options : DrawModel) → options.affected ≡ true
    → HasOneAnswer (AnswersDraw known entries options)

-- ---- the same graph

-- Two graphs with the same values, whatever they are in memory, and by whatever keys of hashes they were read.
pub record SameKnown (one other : DiscoveredGraph) : Type 0 where
  pub graph : one.graph ≡ other.graph
  pub has_discovered : one.has_discovered ≡ other.has_discovered
  pub unknown : one.unknown.items ≡ other.unknown.items
  pub faulty : map (λ fault. fault.edge.0) one.faults.items ≡ map (λ fault. fault.edge.0) other.faults.items
  pub texts : map (λ fault. fault.text.items) one.faults.items ≡ map (λ fault. fault.text.items) other.faults.items
  pub discoveries : one.discoveries.items ≡ other.discoveries.items
  pub stated_inputs : one.stated_inputs.items ≡ other.stated_inputs.items
  pub caveats : one.caveats.items ≡ other.caveats.items
  pub undeclared : one.undeclared.items ≡ other.undeclared.items

-- they have the same answers
abbrev pub SameKnownHaveSameAnswers : Type 0
SameKnownHaveSameAnswers = (one other : DiscoveredGraph) → SameKnown one other → (entries : List ReadStatement) (log : BuildLogModel)
    (times : DeclaredTimes) (folder : List ℕ) (subject : SubjectModel) (named : NamedFiles) (input output : List ℕ) (ending : Ending)
    → Answers one entries log times folder subject named input output ending
    → Answers other entries log times folder subject named input output ending

-- ---- whatever is asked

-- two outputs for one question about a graph are the same, or the same drawing
abbrev pub SameOutput : DiscoveredGraph → SubjectModel → (one other : List ℕ) → Type 0
SameOutput known (draw options) one other = SameDrawing known options one other
SameOutput known subject one other = one ≡ other

-- The times are declared where an answer needs them: `audit` looks sources up, `stale` all files, `times --dead` outputs, and `affected` and
-- `tests`, with an older manifest, the files that the manifest is made from.
abbrev pub TellTimes : SubjectModel → NamedFiles → DeclaredTimes → Type 0
TellTimes (affected options) named times = TellIf (is_some named.since) times
TellTimes (audit options) named times = TellAll times
TellTimes (stale options) named times = TellAll times
TellTimes (tests options) named times = TellIf (is_some named.since) times
TellTimes (timings options) named times = TellIf options.dead times
TellTimes subject named times = Unit {0}

-- One graph, its statements, a build log, the files that options name and the options leave one output, but for a drawing's edges that
-- are equally far, and one ending.
abbrev pub OneAnswer : Type 0
OneAnswer = (known : DiscoveredGraph) (entries : List ReadStatement) (log : BuildLogModel) (times : DeclaredTimes)
    (folder : List ℕ) (subject : SubjectModel) (named : NamedFiles) (input : List ℕ) (output other : List ℕ) (ending end : Ending)
    → IsGraphOf known.graph entries → TellTimes subject named times
    → Answers known entries log times folder subject named input output ending
    → Answers known entries log times folder subject named input other end
    → SameOutput known subject output other × (ending ≡ end)

-- ---- options that are refused

-- options are refused with one line
abbrev pub OneMisuse : Type 0
OneMisuse = (subject : SubjectModel) (line other : List ℕ) → Misuses subject line → Misuses subject other → line ≡ other

-- and then they are not accepted
abbrev pub MisusedIsNotTaken : Type 0
MisusedIsNotTaken = (subject : SubjectModel) (line : List ℕ) → Misuses subject line → ¬ IsTaken subject
