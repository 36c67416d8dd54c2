-- Two answers of `json`.
use Rattle.std.proofs.Common.{◌≡◌, ℕ, List, refl, ap, sym, ◌∙◌}
use Rattle.std.proofs.lemmas.Option.{same_Some}
use Rattle.nj_scope.specs.ReadingList.{ReadStatement}
use Rattle.nj_tools.specs.Compdb.{text_fault}
use Rattle.nj_tools.specs.EdgeObjects.{unwritable_edge}
use Rattle.nj_ask.specs.declared.discovered.DiscoveredGraph.{DiscoveredGraph}
use Rattle.nj_ask.specs.declared.status.Status.TheVariants.{Fault}
use Rattle.nj_ask.specs.Answers.{AnswersJson}
use Rattle.nj_ask.specs.Answers.AnswersJson.{all, not_text}
use Rattle.nj_ask.specs.Endings.{Ending, fault_line, refused}
use Rattle.nj_one_answer.specs.Answers.{OneJsonAnswer}
use Rattle.nj_one_answer.proofs.GivenAnswers.{some-or-none}

answers-agree : (known : DiscoveredGraph) (entries : List ReadStatement) (output other : List ℕ)
    (ending end : Ending) → AnswersJson known entries output ending → AnswersJson known entries other end
    → (output ≡ other) × (ending ≡ end)
answers-agree known entries _ _ _ _ (all none) (all none2) = (refl, refl)
answers-agree known entries _ _ _ _ (all none) (not_text {edge = e} is) =
    absurd (some-or-none e (unwritable_edge entries known.discoveries.items) is none)
answers-agree known entries _ _ _ _ (not_text {edge = e} is) (all none) =
    absurd (some-or-none e (unwritable_edge entries known.discoveries.items) is none)
answers-agree known entries _ _ _ _ (not_text {edge = e} is) (not_text {edge = f} also) =
    (refl, ap (λ edge. refused (fault_line (text_fault entries edge)) Fault) (same_Some e f (sym is ∙ also)))

pub one-json-answer : OneJsonAnswer
one-json-answer known entries = answers-agree known entries
