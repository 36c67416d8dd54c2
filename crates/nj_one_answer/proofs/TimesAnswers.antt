-- Two answers of `times`.
use Rattle.std.proofs.Common.{◌≡◌, ◌∙◌, ℕ, Bool, true, false, Option, Some, None, Result, List, length, refl}
use Rattle.std.proofs.Common.{sym, ap, ap₂, subst, ◌++◌}
use Rattle.nj_discovered.specs.Times.{DeclaredTimes, IsTimeOf}
use Rattle.nj_build_log.specs.Logs.{BuildLogModel, LineModel}
use Rattle.nj_edges.specs.Distances.{IsNeeded}
use Rattle.nj_edges.specs.Edges.{EdgePaths}
use Rattle.nj_scope.specs.ReadingList.{ReadStatement}
use Rattle.nj_graph.specs.declared.GraphFault.{GraphFault}
use Rattle.nj_graph.specs.Graph.{edges_of}
use Rattle.nj_times.specs.Dead.{dead_outputs}
use Rattle.nj_times.specs.Laws.{OneListIsSlowest, OnePathIsCritical}
use Rattle.nj_times.specs.Reports.{AreShown, IsReport, commands_in, report_text}
use Rattle.nj_times.specs.Rules.{AreSlowestRules, IsRuleReport, first_edges, rule_report_text, rule_sums}
use Rattle.nj_times.specs.Slowest.{AreSlowest}
use Rattle.nj_times.specs.Times.{durations_of}
use Rattle.nj_questions.specs.Questions.{TimesModel}
use Rattle.nj_ask.specs.declared.discovered.DiscoveredGraph.{DiscoveredGraph}
use Rattle.nj_ask.specs.declared.status.Status.TheVariants.{Fault}
use Rattle.nj_ask.specs.Answers.{HasDepfileFault, IsClear, asked_targets}
use Rattle.nj_ask.specs.Endings.{Ending, answered, fault_line, refused}
use Rattle.nj_ask.specs.Shape.{caveat_text}
use Rattle.nj_ask.specs.DeadAnswers.{ListsDead, dead_line, unread_line}
use Rattle.nj_ask.specs.DeadAnswers.ListsDead.{none, last}
use Rattle.nj_ask.specs.Times.{AnswersTimes, AnswersTimings, IsReportBy, edge_rules, timed_files}
use Rattle.nj_ask.specs.Times.AnswersTimes.{no_target, no_depfile, reported}
use Rattle.nj_one_answer.specs.Answers.{OneTimesAnswer, TellIf}
use Rattle.nj_one_answer.proofs.NeededFaults.{clear-or-fault, fault-lines-agree}
use Rattle.nj_one_answer.proofs.WhyAnswers.{ok-or-err, same-err, same-ok}
use Rattle.nj_agreement.specs.Sources.{TellAll}
use Rattle.nj_one_answer.proofs.AuditAnswers.{last-apart, last-same}
use Rattle.nj_agreement.proofs.DeclaredAnswers.{answer-is}
use Rattle.nj_agreement.proofs.ReachedAnswers.{rising-agree}

-- ---- reports

module _ (one-path : OnePathIsCritical) (one-list : OneListIsSlowest) (edges : List EdgePaths)
    (lines : List LineModel) (files : List (List ℕ)) where
  abbrev durations : List (Option ℕ)
  durations = durations_of lines edges

  shown-agree : (top : Option ℕ) (commands path shown more : List ℕ)
      → AreShown durations top commands path shown → AreShown durations top commands path more → shown ≡ more
  shown-agree None commands path shown more is also = is ∙ sym also
  shown-agree (Some count) commands path shown more is also =
      one-list durations commands count shown more is also

  pub reports-agree : (top : Option ℕ) (is_json : Bool) (text other : List ℕ)
      → IsReport edges lines files top is_json text → IsReport edges lines files top is_json other
      → text ≡ other
  reports-agree top is_json text other is also =
      let needed : is.needed ≡ also.needed = rising-agree (IsNeeded edges files) is.needed also.needed
      is.are_needed is.rises also.are_needed also.rises in
      let path : is.path ≡ also.path =
      one-path edges files durations is.path also.path is.critical also.critical in
      let shown : is.shown ≡ also.shown =
      shown-agree top (commands_in edges also.needed) also.path is.shown also.shown
      (subst (λ p. AreShown durations top (commands_in edges also.needed) p is.shown) path
      (subst (λ ns. AreShown durations top (commands_in edges ns) is.path is.shown) needed is.are_shown))
      also.are_shown in
      is.text_is
      ∙ ap (λ ns. report_text edges durations is_json (commands_in edges ns) is.path is.shown) needed
      ∙ ap (λ p. report_text edges durations is_json (commands_in edges also.needed) p is.shown) path
      ∙ ap (report_text edges durations is_json (commands_in edges also.needed) also.path) shown
      ∙ sym also.text_is

  -- by the rules of edges
  pub rule-reports-agree : (rules : List (List ℕ)) (is_json : Bool) (text other : List ℕ)
      → IsRuleReport edges rules lines files is_json text → IsRuleReport edges rules lines files is_json other
      → text ≡ other
  rule-reports-agree rules is_json text other is also =
      let needed : is.needed ≡ also.needed = rising-agree (IsNeeded edges files) is.needed also.needed
      is.are_needed is.rises also.are_needed also.rises in
      let path : is.path ≡ also.path =
      one-path edges files durations is.path also.path is.critical also.critical in
      let commands = commands_in edges also.needed in
      let shown : is.shown ≡ also.shown =
      one-list (rule_sums rules durations commands) (first_edges rules commands)
      (length (first_edges rules commands)) is.shown also.shown
      (subst (λ ns. AreSlowestRules rules durations (commands_in edges ns) is.shown) needed is.are_shown)
      also.are_shown in
      is.text_is
      ∙ ap (λ ns. rule_report_text edges rules durations is_json (commands_in edges ns) is.path is.shown)
      needed
      ∙ ap (λ p. rule_report_text edges rules durations is_json commands p is.shown) path
      ∙ ap (rule_report_text edges rules durations is_json commands also.path) shown
      ∙ sym also.text_is

-- ---- answers

abbrev Same : (output other : List ℕ) (ending end : Ending) → Type 0
Same output other ending end = (output ≡ other) × (ending ≡ end)

module _ (one-path : OnePathIsCritical) (one-list : OneListIsSlowest) (known : DiscoveredGraph)
    (entries : List ReadStatement) (log : BuildLogModel) (options : TimesModel) where
  abbrev meant : Result (List (List ℕ)) GraphFault
  meant = asked_targets known.graph options.targets

  abbrev asked : (targets : List (List ℕ)) → List (List ℕ)
  asked targets = timed_files known.graph targets

  texts-agree : (by_rule : Bool) (files : List (List ℕ)) (output other : List ℕ)
      → IsReportBy by_rule known.graph log.lines files options output
      → IsReportBy by_rule known.graph log.lines files options other → output ≡ other
  texts-agree true files output other is also =
      rule-reports-agree one-path one-list (edges_of known.graph) log.lines files (edge_rules known.graph)
      options.json output other is also
  texts-agree false files output other is also =
      reports-agree one-path one-list (edges_of known.graph) log.lines files options.top options.json output
      other
      is also

  answers-agree : (output other : List ℕ) (ending end : Ending)
      → AnswersTimes known entries log options output ending
      → AnswersTimes known entries log options other end → Same output other ending end
  answers-agree _ _ _ _ (no_target {fault = e1} bad1) (no_target {fault = e2} bad2) =
      (refl, ap (λ fault. refused (fault_line fault) Fault) (same-err meant e1 e2 bad1 bad2))
  answers-agree _ _ _ _ (no_target {fault = e1} bad1) (no_depfile {targets = p2} at2 has2) =
      absurd (ok-or-err meant p2 e1 at2 bad1)
  answers-agree _ _ _ _ (no_target {fault = e1} bad1) (reported {targets = p2} at2 clear2 is2) =
      absurd (ok-or-err meant p2 e1 at2 bad1)
  answers-agree _ _ _ _ (no_depfile {targets = p1} at1 has1) (no_target {fault = e2} bad2) =
      absurd (ok-or-err meant p1 e2 at1 bad2)
  answers-agree _ _ _ _ (no_depfile {targets = p1} {line = l1} at1 has1)
      (no_depfile {targets = p2} {line = l2} at2 has2) = (
        refl,
        ap (λ line. refused line Fault) (fault-lines-agree known (asked p2) l1 l2
            (subst (λ ps. HasDepfileFault known (asked ps) l1) (same-ok meant p1 p2 at1 at2) has1) has2),
      )
  answers-agree _ _ _ _ (no_depfile {targets = p1} {line = l1} at1 has1)
      (reported {targets = p2} at2 clear2 is2) =
      absurd (clear-or-fault known (asked p1) l1
      (subst (λ ps. IsClear known (asked ps)) (same-ok meant p2 p1 at2 at1) clear2) has1)
  answers-agree _ _ _ _ (reported {targets = p1} at1 clear1 is1) (no_target {fault = e2} bad2) =
      absurd (ok-or-err meant p1 e2 at1 bad2)
  answers-agree _ _ _ _ (reported {targets = p1} at1 clear1 is1)
      (no_depfile {targets = p2} {line = l2} at2 has2) =
      absurd (clear-or-fault known (asked p2) l2
      (subst (λ ps. IsClear known (asked ps)) (same-ok meant p1 p2 at1 at2) clear1) has2)
  answers-agree output other _ _ (reported {targets = p1} at1 clear1 is1)
      (reported {targets = p2} at2 clear2 is2) = (
        texts-agree options.by_rule (asked p2) output other
            (subst (λ ps. IsReportBy options.by_rule known.graph log.lines (asked ps) options output)
            (same-ok meant p1 p2 at1 at2) is1) is2,
        refl,
      )

-- ---- dead outputs

module _ (times : DeclaredTimes) (all : TellAll times) (is_json : Bool) where
  lists-agree : (outputs outputs2 : List (List ℕ)) (text warnings text2 warnings2 : List ℕ)
      → outputs ≡ outputs2
      → ListsDead times is_json outputs text warnings → ListsDead times is_json outputs2 text2 warnings2
      → (text ≡ text2) × (warnings ≡ warnings2)
  lists-agree _ _ _ _ _ _ same none none = (refl, refl)
  lists-agree _ _ _ _ _ _ same none (last {outputs = ps} {output = p} are is) = absurd (last-apart ps p same)
  lists-agree _ _ _ _ _ _ same (last {outputs = ps} {output = p} are is) none =
      absurd (last-apart ps p (sym same))
  lists-agree _ _ _ _ _ _ same
      (last {outputs = ps} {text = ts} {warnings = ws} {output = p} {found = a} are is)
      (last {outputs = qs} {text = us} {warnings = vs} {output = q} {found = b} also it) =
      let both = last-same ps qs p q same in
      let front = lists-agree ps qs ts ws us vs both.0 are also in
      let found : a ≡ b =
      answer-is times all q a (subst (λ path. IsTimeOf times path a) both.1 is)
      ∙ sym (answer-is times all q b it) in (
        ap₂ (λ (t : List ℕ) (o : List ℕ). t ++ dead_line is_json o a) front.0 both.1
            ∙ ap (λ f. us ++ dead_line is_json q f) found,
        ap₂ (λ (t : List ℕ) (o : List ℕ). t ++ unread_line o a) front.1 both.1
            ∙ ap (λ f. vs ++ unread_line q f) found,
      )

pub one-times-answer : OnePathIsCritical → OneListIsSlowest → OneTimesAnswer
one-times-answer one-path one-list known entries log times options all output other ending end is also =
    by options.dead all is also
  where
    by : (dead : Bool) → TellIf dead times → AnswersTimings dead known entries log times options output ending
        → AnswersTimings dead known entries log times options other end → Same output other ending end
    by false asked is also =
        answers-agree one-path one-list known entries log options output other ending end is also
    by true asked is also =
        let outputs = dead_outputs (edges_of known.graph) log.lines in
        let both = lists-agree times asked options.json outputs outputs output is.warnings other also.warnings
        refl
        is.lists also.lists in (
          both.0,
          is.ending_is ∙ ap (λ (w : List ℕ). answered false (w ++ caveat_text known entries)) both.1
              ∙ sym also.ending_is,
        )
