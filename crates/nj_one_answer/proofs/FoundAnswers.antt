-- Two answers of `audit`.
use Rattle.std.proofs.Common.{◌≡◌, ℕ, Bool, true, false, List, [], ◌∷◌, ◌++◌}
use Rattle.std.proofs.Common.{refl, sym, ap, subst, ◌∙◌}
use Rattle.std.specs.Prelude.{not}
use Rattle.std.proofs.Math.Path.{fun_ext}
use Rattle.nj_text.specs.Calls.{is_empty}
use Rattle.nj_discovered.specs.Times.{DeclaredTimes}
use Rattle.nj_graph.specs.Edges.{maker_of}
use Rattle.nj_graph.specs.Graph.{GraphModel, edges_of, files_of}
use Rattle.nj_audit.specs.Audits.{IsAudit}
use Rattle.nj_audit.specs.Findings.{FindingModel}
use Rattle.nj_audit.specs.Kinds.{contains}
use Rattle.nj_audit.specs.declared.kinds.Kind.TheVariants.{MissingSource}
use Rattle.nj_ask.specs.Audits.{LookUp, LookUpIf, LooksUp, WouldBeMissing, asks_for}
use Rattle.nj_ask.specs.Audits.{finding_lines, is_absent, is_unanswered, lookup_lines}
use Rattle.nj_ask.specs.Audits.LooksUp.{made, source}
use Rattle.nj_ask.specs.Audits.LookUp.{none, last}
use Rattle.nj_ask.specs.Endings.{answered}
use Rattle.nj_ask.specs.KnownGraphs.{undeclared_in}
use Rattle.nj_ask.specs.Shape.{caveat_text}
use Rattle.nj_one_answer.specs.Answers.{OneAuditAnswer}
use Rattle.nj_agreement.specs.Sources.{TellAll}
use Rattle.nj_one_answer.proofs.AuditAnswers.{findings-agree, last-apart, last-same, serving-agree}
use Rattle.nj_one_answer.proofs.AuditAnswers.{sources-agree}
use Rattle.nj_agreement.proofs.DeclaredAnswers.{answer-is}
use Rattle.nj_one_answer.proofs.GivenAnswers.{some-or-none}

module _ (g : GraphModel) (times : DeclaredTimes) (all : TellAll times) where
  abbrev Same : (missing unknown missing2 unknown2 : Bool) → Type 0
  Same missing unknown missing2 unknown2 = (missing ≡ missing2) × (unknown ≡ unknown2)

  looks-agree : (path : List ℕ) (missing unknown missing2 unknown2 : Bool)
      → LooksUp g times path missing unknown → LooksUp g times path missing2 unknown2
      → Same missing unknown missing2 unknown2
  looks-agree path _ _ _ _ (made {maker = e} is) (made also) = (refl, refl)
  looks-agree path _ _ _ _ (made {maker = e} is) (source lacks at) =
      absurd (some-or-none e (maker_of (edges_of g) path) is lacks)
  looks-agree path _ _ _ _ (source lacks at) (made {maker = e} is) =
      absurd (some-or-none e (maker_of (edges_of g) path) is lacks)
  looks-agree path _ _ _ _ (source {found = a} lacks at) (source {found = b} lacks2 at2) =
      let same : a ≡ b = answer-is times all path a at ∙ sym (answer-is times all path b at2) in
      (ap is_absent same, ap is_unanswered same)

  ups-agree : (paths paths2 : List (List ℕ)) (missing unknown missing2 unknown2 : List Bool) → paths ≡ paths2
      → LookUp g times paths missing unknown → LookUp g times paths2 missing2 unknown2
      → (missing ≡ missing2) × (unknown ≡ unknown2)
  ups-agree _ _ _ _ _ _ same none none = (refl, refl)
  ups-agree _ _ _ _ _ _ same none (last {paths = ps} {path = p} are is) = absurd (last-apart ps p same)
  ups-agree _ _ _ _ _ _ same (last {paths = ps} {path = p} are is) none = absurd (last-apart ps p (sym same))
  ups-agree _ _ _ _ _ _ same
      (last {paths = ps} {missing = ms} {unknown = us} {path = p} {is_missing = m} {is_unknown = u} are is)
      (last {paths = qs} {missing = ns} {unknown = vs} {path = q} {is_missing = n} {is_unknown = v} also it) =
      let both = last-same ps qs p q same in
      let front = ups-agree ps qs ms us ns vs both.0 are also in
      let end = looks-agree q m u n v (subst (λ path. LooksUp g times path m u) both.1 is) it in (
        ap (λ bs. bs ++ m ∷ []) front.0 ∙ ap (λ b. ns ++ b ∷ []) end.0,
        ap (λ bs. bs ++ u ∷ []) front.1 ∙ ap (λ b. vs ++ b ∷ []) end.1,
      )

  asked-agree : (asked : Bool) (missing unknown missing2 unknown2 : List Bool)
      → LookUpIf asked g times missing unknown → LookUpIf asked g times missing2 unknown2
      → (missing ≡ missing2) × (unknown ≡ unknown2)
  asked-agree true missing unknown missing2 unknown2 is also =
      ups-agree (files_of g) (files_of g) missing unknown missing2 unknown2 refl is also
  asked-agree false missing unknown missing2 unknown2 is also = (is.0 ∙ sym also.0, is.1 ∙ sym also.1)

lookups-agree : (g : GraphModel) (unknown : List Bool) (one other : List FindingModel)
    → WouldBeMissing g unknown one → WouldBeMissing g unknown other → one ≡ other
lookups-agree g unknown one other is also =
    is.found_is
    ∙ sources-agree g unknown is.serving also.serving
    (serving-agree (edges_of g) is.serving also.serving is.are_serving also.are_serving) ∙ sym also.found_is

pub one-audit-answer : OneAuditAnswer
one-audit-answer known entries times folder options all output other ending end is also =
    let ups = asked-agree known.graph times all (asks_for options MissingSource) is.missing is.unknown
    also.missing also.unknown is.look_up also.look_up in
    let kinds : contains is.kinds ≡ contains also.kinds =
    fun_ext (λ kind. is.asked kind ∙ sym (also.asked kind)) in
    let found : is.found ≡ also.found =
    findings-agree known.graph entries also.missing folder (undeclared_in known) is.kinds also.kinds kinds
    is.found also.found
    (subst (λ missing. IsAudit known.graph entries missing folder (undeclared_in known) is.kinds is.found)
    ups.0
    is.finds) also.finds in
    let lookups : is.lookups ≡ also.lookups =
    lookups-agree known.graph also.unknown is.lookups also.lookups
    (subst (λ unknown. WouldBeMissing known.graph unknown is.lookups) ups.1 is.would_be_missing)
    also.would_be_missing in (
      is.output_is ∙ ap (finding_lines options.json) found ∙ sym also.output_is,
      is.ending_is
          ∙ ap (λ fs. answered (not (is_empty fs)) (lookup_lines is.lookups ++ caveat_text known entries))
          found
          ∙ ap (λ fs. answered (not (is_empty also.found)) (lookup_lines fs ++ caveat_text known entries))
          lookups
          ∙ sym also.ending_is,
    )
