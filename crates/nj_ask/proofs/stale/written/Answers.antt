use Rattle.std.proofs.Common.{◌≡◌, length, map, ap, sym, subst, ◌∙◌}
use Rattle.std.specs.Prelude.{IfOk}
use Rattle.std.specs.List.{flat_map}
use Rattle.std.proofs.lemmas.Result.{IfOk-weaker}
use Rattle.nj_edges.specs.EdgeGraphs.{EdgeGraph}
use Rattle.nj_graph.specs.declared.EdgeNo.{EdgeNo}
use Rattle.nj_stale.specs.Numbered.{evidence_of}
use Rattle.nj_stale.specs.States.{IsStateOf}
use Rattle.nj_state.specs.Facts.{facts_of, hash_version}
use Rattle.nj_state.specs.Judged.{IsJudged}
use Rattle.nj_state.specs.StaleLines.{stale_line}
use Rattle.nj_questions.specs.Questions.{stale_model}
use Rattle.nj_ask.specs.StaleObjects.{stale_objects}
use Rattle.nj_ask.specs.Stales.{WritesStale}
use Rattle.nj_ask.specs.Stales.WritesStale.{lines}
use Rattle.nj_ask.proofs.StaleLemmas.{objects-written}
use Rattle.nj_ask.proofs.stale.written.Goals as goal

pub returns-then-options : goal.returns-then-options
returns-then-options c = λ entries times is.
    let known = c.args.known.now in
    let graph = known.graph.built.graph in
    let log = c.args.log.now in
    let build = c.args.build.now in
    let stale = c.args.stale.now in
    let facts = facts_of entries (map (λ (edge : EdgeNo). edge.0) known.unknown.items) (hash_version log)
    (length graph.edges) in
    let state = λ (x : EdgeGraph). evidence_of x facts build.times.items log.lines in
    objects-written known entries log times build is (stale_model c.args.options.now) stale
    c.stale_objects.result c.if-options.true
    (λ s of. subst (λ (x : EdgeGraph). IfOk c.stale_objects.result (λ text.
    text.items ≡ stale_objects (state x) s stale)) c.deref.ensures
    (c.stale_objects.ensures facts s
    (subst (λ (x : EdgeGraph). IsJudged x facts log.lines build) (sym c.deref.ensures) is.judged)
    (subst (λ (x : EdgeGraph). IsStateOf (state x) s) (sym c.deref.ensures) of)))

pub returns-else-options : goal.returns-else-options
returns-else-options c = λ entries times is.
    let known = c.args.known.now in
    let options = stale_model c.args.options.now in
    let stale = c.args.stale.now in
    IfOk-weaker c.stale_lines.result _ _ (λ text said.
    subst (WritesStale known entries c.args.log.now times options stale)
    (sym (said ∙ ap (λ (x : EdgeGraph). flat_map (stale_line options.why x.edges) stale)
    c.deref-else-options.ensures))
    (lines c.if-options.false))
    c.stale_lines.ensures
