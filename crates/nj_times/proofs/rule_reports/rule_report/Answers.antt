use Rattle.std.proofs.Common.{◌++◌, ◌∙◌, ℕ, Option, List, ap, map, subst, sym}
use Rattle.std.specs.Prelude.{All}
use Rattle.std.specs.List.{flat_map}
use Rattle.std.proofs.lemmas.Result.{IfOk-weaker}
use Rattle.nj_names.specs.Files.{path_at}
use Rattle.nj_edges.specs.declared.edges.EdgeNo.{EdgeNo}
use Rattle.nj_times.specs.Critical.{AreNeededBy, IsCriticalPath}
use Rattle.nj_times.specs.Reports.{commands_in, summary_of}
use Rattle.nj_times.specs.Rules.{AreSlowestRules}
use Rattle.nj_times.specs.Inside.RulesHeld.{times_line}
use Rattle.nj_times.specs.declared.rule_times.RuleTimes.{RuleTimes}
use Rattle.nj_times.proofs.RuleOrderLemmas.{AreOwn, firsts, rules_reported}
use Rattle.nj_times.proofs.rule_reports.rule_report.Goals as goal

abbrev numbers : List EdgeNo → List ℕ
numbers edges = map (λ (edge : EdgeNo). edge.0) edges

pub returns : goal.returns
returns c =
    let edges = c.args.graph.now.edges in
    let rules = map (λ rule. rule.now) c.args.rules.now in
    let files = map (path_at c.args.graph.now.files) c.args.files.now in
    let durations = c.in_ok-durations.durations.items in
    let needed = numbers c.in_ok-needed.needed.items in
    let commands = numbers c.in_ok-commands.commands.items in
    let path = numbers c.in_ok-path.path.items in
    let shown = c.in_ok-shown.shown.items in
    let is_json = c.args.is_json in
    let commands_are = c.in_ok-commands.ensures.commands
    ∙ ap (λ (es : List EdgeNo). commands_in edges (numbers es)) c.deref.ensures.value in
    let critical = subst (λ (ds : List (Option ℕ)). IsCriticalPath edges files ds path)
    c.deref-2.ensures.value
    (c.in_ok-path.ensures.path files (subst (λ (es : List EdgeNo). AreNeededBy edges files (numbers es))
    (sym c.deref-3.ensures.value) c.in_ok-needed.ensures.needed)) in
    let slowest = subst (λ (ds : List (Option ℕ)). AreSlowestRules rules ds commands (firsts shown))
    c.deref-4.ensures.value
    (subst (λ (es : List EdgeNo). AreSlowestRules rules c.deref-4.result.now (numbers es) (firsts shown))
    c.deref-5.ensures.value c.in_ok-shown.ensures.slowest) in
    let own = subst (λ (ds : List (Option ℕ)). All (AreOwn rules ds commands) shown) c.deref-4.ensures.value
    (subst (λ (es : List EdgeNo). All (AreOwn rules c.deref-4.result.now (numbers es)) shown)
    c.deref-5.ensures.value c.in_ok-shown.ensures.held) in
    IfOk-weaker c.rules_written.result _ _
    (λ text is. rules_reported edges rules c.args.log.now.lines files is_json durations needed commands path
    shown
    text.items c.in_ok-durations.ensures c.in_ok-needed.ensures.needed c.in_ok-needed.ensures.rises
    commands_are critical slowest own
    (is
    ∙ ap (λ (ds : List (Option ℕ)). summary_of ds is_json (numbers c.deref-7.result.now)
    (numbers c.deref-8.result.now)
    ++ flat_map (times_line edges rules ds is_json) c.deref-9.result.now) c.deref-6.ensures.value
    ∙ ap (λ (es : List EdgeNo). summary_of durations is_json (numbers es) (numbers c.deref-8.result.now)
    ++ flat_map (times_line edges rules durations is_json) c.deref-9.result.now) c.deref-7.ensures.value
    ∙ ap (λ (es : List EdgeNo). summary_of durations is_json commands (numbers es)
    ++ flat_map (times_line edges rules durations is_json) c.deref-9.result.now) c.deref-8.ensures.value
    ∙ ap (λ (ts : List RuleTimes). summary_of durations is_json commands path
    ++ flat_map (times_line edges rules durations is_json) ts) c.deref-9.ensures.value))
    c.rules_written.ensures
