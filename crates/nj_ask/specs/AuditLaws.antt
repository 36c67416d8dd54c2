-- What `audit` lists, and what its status 0 means.
use Rattle.std.specs.Prelude.{◌≡◌, ◌↔◌, ℕ, Bool, true, List, [], Contains}
use Rattle.nj_discovered.specs.Times.{DeclaredTimes}
use Rattle.nj_graph.specs.ReadingList.{ReadStatement}
use Rattle.nj_graph.specs.Graph.{edges_of}
use Rattle.nj_tools.specs.Sinks.{SinkState, Takes}
use Rattle.nj_audit.specs.Audit.{all_findings}
use Rattle.nj_audit.specs.Findings.{FindingModel}
use Rattle.nj_audit.specs.LoggedInputs.{AreFoundIf}
use Rattle.nj_audit.specs.Serving.{AreServing}
use Rattle.nj_audit.specs.declared.kinds.Kind.TheVariants.{MissingSource, UndeclaredInput}
use Rattle.nj_questions.specs.Questions.{AuditModel}
use Rattle.nj_ask.specs.declared.discovered.DiscoveredGraph.{DiscoveredGraph}
use Rattle.nj_ask.specs.declared.status.Status.TheVariants.{Done}
use Rattle.nj_ask.specs.Audits.{AnswersAudit, LookUpIf, WouldBeMissing, asks_for, finding_lines}
use Rattle.nj_ask.specs.Endings.{Ending, Ends, Sinks}
use Rattle.nj_ask.specs.KnownGraphs.{undeclared_in}
use Rattle.nj_ask.specs.Shape.{caveat_text}

-- The lines are those of exactly the findings about the manifest whose kinds are requested: none is of another kind, and none is left out.
-- The times of files decide which sources are missing, and inputs that a deps log names are included where it is read.
pub record ListsFindings (known : DiscoveredGraph) (entries : List ReadStatement) (times : DeclaredTimes) (folder : List ℕ)
    (options : AuditModel) (output : List ℕ) : Type 0 where
  pub missing : List Bool
  pub unknown : List Bool
  pub look_up : LookUpIf (asks_for options MissingSource) known.graph times missing unknown
  pub serving : List Bool
  pub are_serving : AreServing (edges_of known.graph) serving
  pub undeclared : List FindingModel
  pub are_undeclared : AreFoundIf (asks_for options UndeclaredInput) known.graph entries folder (undeclared_in known) undeclared
  pub found : List FindingModel
  pub lines : output ≡ finding_lines options.json found
  pub lists : (finding : FindingModel) → Contains found finding
      ↔ (Contains (all_findings known.graph entries missing serving undeclared) finding × (asks_for options finding.kind ≡ true))

-- Nothing was output: no finding about the manifest is of a requested kind, each source that a command needs was looked up if missing
-- sources are requested, and nothing is unclear about what builds discovered.
pub record FindsNothing (known : DiscoveredGraph) (entries : List ReadStatement) (times : DeclaredTimes) (folder : List ℕ)
    (options : AuditModel) (old new : SinkState) : Type 0 where
  pub lists : ListsFindings known entries times folder options []
  pub none : lists.found ≡ []
  pub looked_up : WouldBeMissing known.graph lists.unknown []
  pub clear : caveat_text known entries ≡ []
  pub took : Takes old new []

-- Whatever `audit` outputs lists the findings.
abbrev pub AuditListsFindings : Type 0
AuditListsFindings = (known : DiscoveredGraph) (entries : List ReadStatement) (times : DeclaredTimes) (folder : List ℕ)
    (options : AuditModel) (output : List ℕ) (ending : Ending) → AnswersAudit known entries times folder options output ending
    → ListsFindings known entries times folder options output

-- Where it ends with status 0, there is nothing to look at.
abbrev pub DoneFindsNothing : Type 0
DoneFindsNothing = (known : DiscoveredGraph) (entries : List ReadStatement) (times : DeclaredTimes) (folder : List ℕ)
    (options : AuditModel) (old new : Sinks) → Ends (AnswersAudit known entries times folder options) old new Done
    → FindsNothing known entries times folder options old.output new.output
