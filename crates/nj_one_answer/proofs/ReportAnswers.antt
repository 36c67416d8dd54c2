-- Two answers of `affected`.
use Rattle.std.proofs.Common.{◌≡◌, ◌≢◌, ◌⊎◌, inl, inr, ℕ, true, false, Option, Some, None, List}
use Rattle.std.proofs.Common.{[]}
use Rattle.std.proofs.Common.{◌++◌}
use Rattle.std.proofs.Common.{refl, sym, ap, subst, ◌∙◌}
use Rattle.std.specs.Prelude.{codes, is_some}
use Rattle.std.specs.List.{flat_map}
use Rattle.std.proofs.lemmas.Bool.{both_ways}
use Rattle.std.proofs.lemmas.Option.{same_Some}
use Rattle.nj_scope.specs.ReadingList.{ReadStatement}
use Rattle.nj_questions.specs.Questions.{AffectedModel}
use Rattle.nj_ask.specs.declared.discovered.DiscoveredGraph.{DiscoveredGraph}
use Rattle.nj_ask.specs.declared.status.Status.TheVariants.{Fault}
use Rattle.nj_ask.specs.Affected.{Asked, lines_of_outputs, unknown_rule}
use Rattle.nj_ask.specs.Answers.{AnswersAffected, change_asked, manifest_edges, outputs_asked}
use Rattle.nj_ask.specs.Answers.AnswersAffected.{no_keys, no_path, no_rule, reported}
use Rattle.nj_ask.specs.Endings.{Ending, answered, program_line, refused}
use Rattle.nj_ask.specs.Given.{given_paths}
use Rattle.nj_ask.specs.Laws.{WarningsAreUnique}
use Rattle.nj_globs.specs.Laws.{OneReading}
use Rattle.nj_ask.specs.Reports.{ChangeModel, HasCaveats, IsReport, IsTouchedBy, changed_numbers}
use Rattle.nj_ask.specs.Reports.{remade_files}
use Rattle.nj_ask.specs.Since.{NewModel}
use Rattle.nj_ask.specs.Shape.{shape_text}
use Rattle.nj_one_answer.specs.Answers.{OneAffectedAnswer, TellIf}
use Rattle.nj_discovered.specs.Times.{DeclaredTimes}
use Rattle.nj_agreement.proofs.ReachedAnswers.{rising-agree}
use Rattle.nj_one_answer.proofs.GivenAnswers.{leaves-agree, some-or-none}
use Rattle.nj_one_answer.proofs.SinceAnswers.{lacking-agree, new-agree, new-or-lacking}
use Rattle.nj_keys.specs.Keys.{ListsOfKeysAreUnique}

module _ (reading : OneReading) (unique : WarningsAreUnique) (known : DiscoveredGraph)
    (entries : List ReadStatement) where
  pub caveats-agree : (q : ChangeModel) (edges warnings more : List ℕ)
      → HasCaveats known entries q edges warnings → HasCaveats known entries q edges more → warnings ≡ more
  caveats-agree q edges warnings more is also =
      is.all ∙ ap (λ a. known.caveats.items ++ a
      ++ shape_text known entries (remade_files known.graph q) (changed_numbers known.graph q) edges)
      (unique known.graph entries q q.paths is.about also.about is.warns also.warns)
      ∙ sym also.all

  reports-agree : (q : ChangeModel) (asked : Asked) (output other warnings more : List ℕ)
      → IsReport known entries q asked output warnings → IsReport known entries q asked other more
      → (output ≡ other) × (warnings ≡ more)
  reports-agree q asked output other warnings more is also =
      let edges = rising-agree (IsTouchedBy known q) is.lists.edges also.lists.edges is.lists.touched
      is.lists.rises also.lists.touched also.lists.rises in (
        is.lists.lines ∙ ap (flat_map (lines_of_outputs known.graph asked)) edges ∙ sym also.lists.lines,
        caveats-agree q also.lists.edges warnings more
            (subst (λ es. HasCaveats known entries q es warnings) edges is.caveats) also.caveats,
      )

  module _ (keys : ListsOfKeysAreUnique) (times : DeclaredTimes) (folder : List ℕ) (options : AffectedModel)
      (since : Option (List ℕ)) (input : List ℕ) (tells : TellIf (is_some since) times)
    where
      unmade : (lines : List (List ℕ)) → lines ≡ [] → options.allow_empty ≡ false
          → (lines ≢ []) ⊎ (options.allow_empty ≡ true) → ⊥
      unmade lines none asks (inl some) = absurd (some none)
      unmade lines none asks (inr allowed) = absurd (both_ways options.allow_empty asks allowed)

      unknown : (name : List ℕ) → unknown_rule known.graph options.rules ≡ Some name
          → unknown_rule known.graph options.rules ≡ None → ⊥
      unknown name is none = some-or-none name (unknown_rule known.graph options.rules) is none

      pub answers-agree : (output other : List ℕ) (ending end : Ending)
          → AnswersAffected known entries times folder options since input output ending
          → AnswersAffected known entries times folder options since input other end
          → (output ≡ other) × (ending ≡ end)
      answers-agree _ _ _ _ (no_rule {name = a} is) (no_rule {name = b} also) = (
        refl,
        ap (λ name. refused (program_line (codes "unknown rule '" ++ name ++ codes "'")) Fault)
            (same_Some a b (sym is ∙ also)),
      )
      answers-agree _ _ _ _ (no_rule {name = a} is) (no_path none empty asks) = absurd (unknown a is none)
      answers-agree _ _ _ _ (no_rule {name = a} is) (no_keys none some lacks) = absurd (unknown a is none)
      answers-agree _ _ _ _ (no_rule {name = a} is) (reported none some new leaves report) =
          absurd (unknown a is none)
      answers-agree _ _ _ _ (no_path none empty asks) (no_rule {name = a} is) = absurd (unknown a is none)
      answers-agree _ _ _ _ (no_path none empty asks) (no_path none2 empty2 asks2) = (refl, refl)
      answers-agree _ _ _ _ (no_path none empty asks) (no_keys none2 some lacks) =
          absurd (unmade _ empty asks some)
      answers-agree _ _ _ _ (no_path none empty asks) (reported none2 some new leaves report) =
          absurd (unmade _ empty asks some)
      answers-agree _ _ _ _ (no_keys none some lacks) (no_rule {name = a} is) = absurd (unknown a is none)
      answers-agree _ _ _ _ (no_keys none some lacks) (no_path none2 empty asks) =
          absurd (unmade _ empty asks some)
      answers-agree _ _ _ _ (no_keys {line = l} none some lacks) (no_keys {line = m} none2 some2 lacks2) =
          (refl, ap (λ line. refused line Fault) (lacking-agree options.since since l m lacks lacks2))
      answers-agree _ _ _ _ (no_keys {line = l} none some lacks)
          (reported {new = n} none2 some2 new leaves report) =
          absurd (new-or-lacking known (manifest_edges known) entries times folder options.bases
          options.since since n l new lacks)
      answers-agree _ _ _ _ (reported none some new leaves report) (no_rule {name = a} is) =
          absurd (unknown a is none)
      answers-agree _ _ _ _ (reported none some new leaves report) (no_path none2 empty asks) =
          absurd (unmade _ empty asks some)
      answers-agree _ _ _ _ (reported {new = n} none some new leaves report)
          (no_keys {line = l} none2 some2 lacks) =
          absurd (new-or-lacking known (manifest_edges known) entries times folder options.bases
          options.since since n l new lacks)
      answers-agree _ _ _ _ (reported {paths = ps} {new = m} {outputs = o} {warnings = w} none some new leaves
          report)
          (reported {paths = qs} {new = n} {outputs = p} {warnings = v} none2 some2 new2 leaves2 report2) =
          let same = leaves-agree reading options (given_paths options input) ps qs leaves leaves2 in
          let one = new-agree keys known (manifest_edges known) entries times folder options.bases since m n
          tells new new2
          in
          let both = reports-agree (change_asked options folder [] qs n) (outputs_asked options) o p w v
          (subst (λ (more : NewModel). IsReport known entries (change_asked options folder [] qs more)
          (outputs_asked options) o w) one
          (subst (λ paths. IsReport known entries (change_asked options folder [] paths m)
          (outputs_asked options) o w) same report))
          report2 in
          (both.0, ap (answered false) both.1)

pub one-affected-answer : OneReading → WarningsAreUnique → ListsOfKeysAreUnique → OneAffectedAnswer
one-affected-answer reading unique keys known entries times folder options since input tells =
    answers-agree reading unique known entries keys times folder options since input tells
