use Rattle.std.proofs.Common.{◌∙◌, ap, length, sym}
use Rattle.nj_edges.specs.EdgeGraphs.{EdgeGraph}
use Rattle.nj_state.proofs.TimeLemmas.{times_count}
use Rattle.nj_state.proofs.judged.judged_build.Goals as goal

pub judged_by-requires : goal.judged_by-requires
judged_by-requires g c = record {
  fact_count = ap length c.deref-3.ensures.value ∙ c.in_ok-facts.ensures.count
      ∙ ap (λ (graph : EdgeGraph). length graph.edges) (sym c.deref-2.ensures);
  time_count = times_count (g.T.FileTimes.times c.args.times.now) c.deref.result.now.files
      c.in_ok-times.times.items c.in_ok-times.ensures.found
      ∙ ap (λ (graph : EdgeGraph). length graph.files) (c.deref.ensures ∙ sym c.deref-2.ensures);
}
