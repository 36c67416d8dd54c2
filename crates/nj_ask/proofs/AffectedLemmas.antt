-- How the answer to `affected` is given.
use Rattle.std.proofs.Common.{◌≡◌, ◌≢◌, ◌⊎◌, ℕ, true, false, Option, Some, None, List, [], ◌++◌, Ok, Err, sym}
use Rattle.std.proofs.Common.{subst}
use Rattle.std.specs.Prelude.{codes}
use Rattle.nj_graph.specs.ReadingList.{ReadStatement}
use Rattle.nj_discovered.specs.Times.{DeclaredTimes}
use Rattle.nj_questions.specs.Questions.{AffectedModel}
use Rattle.nj_ask.specs.declared.answer.Answer.{Answer}
use Rattle.nj_ask.specs.declared.discovered.DiscoveredGraph.{DiscoveredGraph}
use Rattle.nj_ask.specs.declared.failure.Failure.{Failure}
use Rattle.nj_ask.specs.declared.status.Status.TheVariants.{Fault, Usage}
use Rattle.nj_ask.specs.Affected.{Asked, unknown_rule}
use Rattle.nj_ask.specs.Answers.{AnswersAffected, change_asked, manifest_edges, outputs_asked}
use Rattle.nj_ask.specs.Answers.AnswersAffected.{no_keys, no_path, no_rule, reported}
use Rattle.nj_ask.specs.Endings.{program_line, refused}
use Rattle.nj_ask.specs.Inside.Failures.{Gives}
use Rattle.nj_ask.specs.Inside.Failures.{FailsBy}
use Rattle.nj_ask.specs.Given.{given_paths, LeavesPaths, MisusesAffected, change_misuse}
use Rattle.nj_ask.specs.Given.MisusesAffected.{by_word, no_glob}
use Rattle.nj_ask.specs.Inside.AnswerParts.{SaysPattern}
use Rattle.nj_changes.specs.Ignored.{IsPatternFault}
use Rattle.nj_changes.specs.declared.ignored.PatternFault.{PatternFault}
use Rattle.nj_changes.specs.declared.ignored.PatternFault.TheVariants as pattern
use Rattle.nj_ask.specs.Since.{IsNewSince, LacksKeys, NewModel}
use Rattle.nj_ask.specs.Reports.{ChangeModel, IsReport, no_path_line}
use Rattle.nj_ask.proofs.EndingLemmas.{gives-refused}
use Rattle.nj_ask.proofs.FailureLemmas.{fails-as}

module _ (known : DiscoveredGraph) (entries : List ReadStatement) (times : DeclaredTimes) (folder : List ℕ)
    (options : AffectedModel)
    (since : Option (List ℕ)) (input : List ℕ) where
  -- a name that no rule has is refused
  pub gives-no-rule : (name : List ℕ) (failure : Failure) → unknown_rule known.graph options.rules ≡ Some name
      → FailsBy Fault (λ line. line ≡ program_line (codes "unknown rule '" ++ name ++ codes "'")) failure
      → Gives (AnswersAffected known entries times folder options since input) (Err failure)
  gives-no-rule name failure unknown fails =
      gives-refused (AnswersAffected known entries times folder options since input) Fault
      (λ line. line ≡ program_line (codes "unknown rule '" ++ name ++ codes "'"))
      (λ line is. subst (λ l. AnswersAffected known entries times folder options since input []
      (refused l Fault))
      (sym is)
      (no_rule unknown)) failure fails

  -- so is a file that has no keys
  pub gives-no-keys : (failure : Failure) → unknown_rule known.graph options.rules ≡ None
      → (given_paths options input ≢ []) ⊎ (options.allow_empty ≡ true)
      → FailsBy Fault (LacksKeys options.since since) failure
      → Gives (AnswersAffected known entries times folder options since input) (Err failure)
  gives-no-keys failure all some fails =
      gives-refused (AnswersAffected known entries times folder options since input) Fault
      (LacksKeys options.since since) (λ line lacks. no_keys all some lacks) failure fails

  module _ (answer : Answer) (all : unknown_rule known.graph options.rules ≡ None)
      (quiet : answer.looks ≡ false) where
    pub gives-no-path : given_paths options input ≡ [] → options.allow_empty ≡ false
        → answer.output.items ≡ []
        → answer.warnings.items ≡ no_path_line
        → Gives (AnswersAffected known entries times folder options since input) (Ok answer)
    gives-no-path none asks output warnings = rw (output, warnings, quiet) (no_path all none asks)

    pub gives-report : (q : ChangeModel) (asked : Asked) (paths : List (List ℕ)) (new : NewModel)
        → (given_paths options input ≢ []) ⊎ (options.allow_empty ≡ true)
        → IsNewSince known (manifest_edges known) entries times folder options.bases since new
        → LeavesPaths options (given_paths options input) paths
        → q ≡ change_asked options folder [] paths new → asked ≡ outputs_asked options
        → IsReport known entries q asked answer.output.items answer.warnings.items
        → Gives (AnswersAffected known entries times folder options since input) (Ok answer)
    gives-report q asked paths new some is leaves change listed report = rw quiet (reported all some is leaves
        (subst (λ x. IsReport known entries x (outputs_asked options) answer.output.items
        answer.warnings.items)
        change (subst (λ x. IsReport known entries q x answer.output.items answer.warnings.items) listed
        report)))

-- ---- options that are refused

-- the line about a pattern is the line about the options
pattern-misuse : (options : AffectedModel) → change_misuse options ≡ None → (fault : PatternFault)
    → IsPatternFault options.ignored fault → (line : List ℕ) → SaysPattern fault line
    → MisusesAffected options line
pattern-misuse options folder (pattern.Wrong text fault) wrong line says =
    subst (MisusesAffected options) (sym says) (no_glob folder wrong)
pattern-misuse options folder pattern.OutOfMemory wrong line says = absurd says

-- options with the pattern are refused
pub fails-by-pattern : (options : AffectedModel) → change_misuse options ≡ None
    → (fault : PatternFault)
    → IsPatternFault options.ignored fault → (failure : Failure) → FailsBy Usage (SaysPattern fault) failure
    → FailsBy Usage (MisusesAffected options) failure
fails-by-pattern options folder fault wrong failure fails =
    fails-as Usage (SaysPattern fault) (MisusesAffected options) failure
    (pattern-misuse options folder fault wrong)
    fails

-- options with a mistake are refused
pub fails-by-word : (options : AffectedModel) (failure : Failure)
    → FailsBy Usage (λ line. change_misuse options ≡ Some line) failure
    → FailsBy Usage (MisusesAffected options) failure
fails-by-word options failure fails =
    fails-as Usage (λ line. change_misuse options ≡ Some line) (MisusesAffected options) failure
    (λ line is. by_word is) fails
