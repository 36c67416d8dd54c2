use Rattle.std.proofs.Common.{◌∙◌, ℕ, Option, List, ap, map, subst, sym}
use Rattle.std.proofs.lemmas.Result.{IfOk-weaker}
use Rattle.nj_names.specs.Files.{path_at}
use Rattle.nj_edges.specs.declared.edges.EdgeNo.{EdgeNo}
use Rattle.nj_times.specs.Critical.{AreNeededBy, IsCriticalPath}
use Rattle.nj_times.specs.Reports.{AreShown, commands_in, report_text}
use Rattle.nj_times.proofs.ReportLemmas.{reported}
use Rattle.nj_times.proofs.reports.report.Goals as goal

abbrev numbers : List EdgeNo → List ℕ
numbers edges = map (λ (edge : EdgeNo). edge.0) edges

pub returns : goal.returns
returns c =
    let edges = c.args.graph.now.edges in
    let files = map (path_at c.args.graph.now.files) c.args.files.now in
    let durations = c.in_ok-durations.durations.items in
    let needed = numbers c.in_ok-needed.needed.items in
    let commands = numbers c.in_ok-commands.commands.items in
    let path = numbers c.in_ok-path.path.items in
    let shown = numbers c.in_ok-shown.shown.items in
    let is_json = c.args.is_json in
    let commands_are = c.in_ok-commands.ensures.commands
    ∙ ap (λ (es : List EdgeNo). commands_in edges (numbers es)) c.deref.ensures.value in
    let critical = subst (λ (ds : List (Option ℕ)). IsCriticalPath edges files ds path)
    c.deref-2.ensures.value
    (c.in_ok-path.ensures.path files (subst (λ (es : List EdgeNo). AreNeededBy edges files (numbers es))
    (sym c.deref-3.ensures.value) c.in_ok-needed.ensures.needed)) in
    let are_shown = subst (λ (ds : List (Option ℕ)). AreShown ds c.args.top commands path shown)
    c.deref-4.ensures.value
    (subst (λ (es : List EdgeNo). AreShown c.deref-4.result.now c.args.top (numbers es) path shown)
    c.deref-5.ensures.value
    (subst (λ (es : List EdgeNo). AreShown c.deref-4.result.now c.args.top (numbers c.deref-5.result.now)
    (numbers es) shown)
    c.deref-6.ensures.value c.in_ok-shown.ensures.shown)) in
    IfOk-weaker c.written.result _ _
    (λ text is. reported edges c.args.log.now.lines files c.args.top is_json durations needed commands path
    shown
    text.items c.in_ok-durations.ensures c.in_ok-needed.ensures.needed c.in_ok-needed.ensures.rises
    commands_are
    critical are_shown
    (is
    ∙ ap (λ (ds : List (Option ℕ)). report_text edges ds is_json (numbers c.deref-8.result.now)
    (numbers c.deref-9.result.now) (numbers c.deref-10.result.now)) c.deref-7.ensures.value
    ∙ ap (λ (es : List EdgeNo). report_text edges durations is_json (numbers es)
    (numbers c.deref-9.result.now) (numbers c.deref-10.result.now)) c.deref-8.ensures.value
    ∙ ap (λ (es : List EdgeNo). report_text edges durations is_json commands
    (numbers es) (numbers c.deref-10.result.now)) c.deref-9.ensures.value
    ∙ ap (λ (es : List EdgeNo). report_text edges durations is_json commands path (numbers es))
    c.deref-10.ensures.value))
    c.written.ensures
