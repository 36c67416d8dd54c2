use Rattle.std.proofs.Common.{length, map, refl, subst, sym}
use Rattle.nj_edges.specs.EdgeGraphs.{EdgeGraph}
use Rattle.nj_edges.specs.declared.edges.EdgeNo.{EdgeNo}
use Rattle.nj_needs.specs.Walks.{commands_of}
use Rattle.nj_stale.specs.Numbered.{evidence_of}
use Rattle.nj_state.specs.Facts.{facts_of, hash_version}
use Rattle.nj_state.specs.Judged.{IsJudged}
use Rattle.nj_state.specs.Stale.{AreStaleBy}
use Rattle.nj_state.proofs.commands.stale_edges.Goals as goal

pub returns-clause-stale : goal.returns-clause-stale
returns-clause-stale g c = λ entries of.
    let graph = c.args.graph.now.built.graph in
    let unknown = map (λ (edge : EdgeNo). edge.0) c.args.unknown.now in
    let log = c.args.log.now in
    let targets = c.args.targets.now in
    let facts = facts_of entries unknown (hash_version log) (length graph.edges) in
    let build = c.in_ok-build.build in
    let times = build.times.items in
    let stale = c.in_ok-stale_in.field-0.items in
    record {
      known = evidence_of graph facts times log.lines;
      is = record { times = times; times_are = c.in_ok-build.ensures.times; known_is = refl };
      edges = subst (λ (x : EdgeGraph). AreStaleBy (evidence_of x facts times log.lines)
          (commands_of x targets) stale) c.deref.ensures
          (c.in_ok-stale_in.ensures.stale facts log.lines
          (subst (λ (x : EdgeGraph). IsJudged x facts log.lines build) (sym c.deref.ensures)
          (c.in_ok-build.ensures.judged entries of)));
    }
