use Rattle.std.proofs.Common.{◌≡◌, ◌+◌, Bool, arith, length, sym, subst, ◌∙◌}
use Rattle.std.specs.List.{filter}
use Rattle.nj_graph.specs.Handles.{GraphEdge, edge_of}
use Rattle.nj_ask.specs.DrawnNodes.{has_node, of_edge}
use Rattle.nj_ask.proofs.DrawnLemmas.{one-more}
use Rattle.nj_ask.proofs.drawing.drawn_count.Goals as goal

pub overflow_add-count : goal.overflow_add-count
overflow_add-count c =
    let drawn : GraphEdge → Bool = λ edge. has_node c.args.nodes.now (of_edge edge) in
    let more = one-more drawn (edge_of c.in-Some.edge) c.next.new.self c.args.edges c.edges.count
    (sym c.has.ensures ∙ c.if-has.true)
    (subst (λ edges. c.edges.count + length (filter drawn edges) ≡ length (filter drawn c.args.edges))
    c.in-Some.ensures.steps c.edges.invariant) in
    let most = c.len-most.ensures in
    let fits = c.len-most.type_inv in
    omega (arith, more, most, fits)
