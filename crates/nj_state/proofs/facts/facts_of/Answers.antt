use Rattle.std.proofs.Common.{◌≡◌, ◌<◌, ◌+◌, ◌∙◌, false, ap, length, map, subst, arith}
use Rattle.std.proofs.lemmas.List.{get_or_default, length_push}
use Rattle.nj_edges.specs.declared.edges.EdgeNo.{EdgeNo}
use Rattle.nj_graph.specs.Handles.{GraphEdge, OfEdge}
use Rattle.nj_state.specs.Facts.{facts_by}
use Rattle.nj_state.proofs.FactLemmas.{facts-more}
use Rattle.nj_state.proofs.facts.facts_of.Goals as goal

pub edges-preserved : goal.edges-preserved
edges-preserved c =
    let held = c.edges.invariant in
    let flags = c.in_ok-flags.flags.items in
    let are = c.in_ok-flags.ensures in
    let n = c.edges.number in
    let first = rw c.deref.ensures at c.edge_count.ensures.count in
    let third = rw c.deref-3.ensures at c.edge_count-number-end.ensures.count in
    let counted : c.edge_count.result ≡ c.edge_count-number-end.result = omega (arith, first, third) in
    let below : n < c.edge_count.result = omega (arith, counted, c.edges-test.true) in
    let within : n < length flags = omega (arith, are.count_is, below) in
    let same = c.index.ensures ∙ get_or_default flags n c.index.result.now false within ∙ are.are n below in
    let fact = c.in_ok-edge_facts.field-0 in
    record {
      count = ap length c.in_ok-push.ensures.items ∙ length_push c.edges.facts.items fact
          ∙ ap (λ k. k + 1) held.count;
      facts = λ entries graph.
          let is = subst (λ (edge : GraphEdge). OfEdge edge (λ read number.
          fact ≡ facts_by read c.args.version c.index.result.now number)) c.edge_at-edge.ensures
          c.in_ok-edge_facts.ensures entries graph in
          c.in_ok-push.ensures.items
          ∙ facts-more entries (map (λ (edge : EdgeNo). edge.0) c.args.unknown.now) c.args.version
          c.edges.facts.items n c.index.result.now fact same is (held.facts entries graph);
    }
