use Rattle.std.proofs.Common.{◌<◌, ◌++◌, ◌∙◌, [], ◌∷◌, ap, length, sym, subst, arith}
use Rattle.std.proofs.lemmas.List.{map_push}
use Rattle.std.proofs.lemmas.List.Elements.{All-push}
use Rattle.nj_edges.specs.EdgeGraphs.{EdgeGraph}
use Rattle.nj_graph.specs.declared.EdgeNo.{EdgeNo}
use Rattle.nj_graph.specs.Graph.{edges_of}
use Rattle.nj_ask.specs.Inside.Reached.{edge_numbers, AreEdgesOf}
use Rattle.nj_ask.proofs.LineLemmas.{numbers-more}
use Rattle.nj_ask.proofs.settled.all_edges.Goals as goal

pub edges-preserved : goal.edges-preserved
edges-preserved c =
    let n = c.edges.number in
    let edge : EdgeNo = record { 0 = n } in
    let count = c.edge_count-number-end.ensures.count ∙ ap (λ (v : EdgeGraph). length v.edges) c.deref.ensures
    in
    let new = c.in_ok-push.ensures.items in
    record {
      all = ap edge_numbers new ∙ map_push (λ (e : EdgeNo). e.0) c.edges.edges.items edge
          ∙ ap (λ ns. ns ++ n ∷ []) c.edges.invariant.all ∙ sym (numbers-more n);
      known = subst (AreEdgesOf c.args.graph.now) (sym new)
          (All-push (λ (e : EdgeNo). e.0 < length (edges_of c.args.graph.now)) c.edges.edges.items edge
          c.edges.invariant.known (omega (arith, c.edges-test.true, count)));
    }
