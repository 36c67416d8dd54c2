use Rattle.std.proofs.Common.{length, map, subst, sym}
use Rattle.std.proofs.lemmas.Result.{IfOk-weaker}
use Rattle.nj_edges.specs.EdgeGraphs.{EdgeGraph}
use Rattle.nj_graph.specs.declared.EdgeNo.{EdgeNo}
use Rattle.nj_needs.specs.Walks.{commands_of}
use Rattle.nj_stale.specs.Numbered.{evidence_of}
use Rattle.nj_state.specs.Facts.{facts_of, hash_version}
use Rattle.nj_state.specs.Judged.{IsJudged}
use Rattle.nj_state.specs.Stale.{AreStaleBy}
use Rattle.nj_ask.proofs.StaleLemmas.{stale-for}
use Rattle.nj_ask.proofs.stale.stale_of.Goals as goal

pub returns-clause-stale : goal.returns-clause-stale
returns-clause-stale c = λ entries log times paths is are.
    let known = c.args.known.now in
    let graph = known.graph.built.graph in
    let build = c.args.build.now in
    let files = c.args.files.now in
    let facts = facts_of entries (map (λ (edge : EdgeNo). edge.0) known.unknown.items) (hash_version log)
    (length graph.edges) in
    IfOk-weaker c.stale_in.result _ _ (λ stale by. stale-for known entries log times build is paths files
    stale.items are
    (subst (λ (x : EdgeGraph). AreStaleBy (evidence_of x facts build.times.items log.lines)
    (commands_of x files) stale.items) c.deref.ensures
    (by facts log.lines (subst (λ (x : EdgeGraph). IsJudged x facts log.lines build) (sym c.deref.ensures)
    is.judged))))
    c.stale_in.ensures.stale
