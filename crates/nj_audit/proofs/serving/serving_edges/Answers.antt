use Rattle.std.proofs.Common.{◌<◌, ◌≤◌, [], length, sym, ap, subst, ◌∙◌, arith}
use Rattle.nj_edges.specs.Inside.ChangesHeld.{FindsMore}
use Rattle.nj_graph.specs.Edges.{inputs_of}
use Rattle.nj_graph.specs.Graph.{edges_of}
use Rattle.nj_graph.specs.Handles.{GraphEdge, paths_of}
use Rattle.nj_audit.specs.Inside.Served.{AreFound, MakesOneOf}
use Rattle.nj_audit.proofs.ServingLemmas.{edge-there, serving-begins, serving-continues, serving-ends}
use Rattle.nj_audit.proofs.serving.serving_edges.Goals as goal

pub edges-init : goal.edges-init
edges-init c = record {
  are = c.in_ok-add_commands.ensures.are;
  finds = serving-begins (edges_of c.args.graph.now) c.in_ok-none_below.field-0 c.add_commands.new.found.set
      (c.in_ok-none_below.ensures ∙ ap (λ n. record { limit = n; numbers = [] })
      (rw c.deref.ensures at c.edge_count.ensures.count)) c.in_ok-add_commands.ensures.more;
}

pub add_makers-requires : goal.add_makers-requires
add_makers-requires c =
    let old = c.edges.found in
    let held = c.edges.invariant in
    let below : c.edges.place < length old.set.numbers =
    omega (arith, c.edges-test.true, ap length c.numbers.ensures.numbers) in
    let there = edge-there c.args.graph.now old.edges.items old.set.numbers c.edges.place
    c.index-edge.result.now held.are.edges below c.index-edge.ensures in
    subst (λ (e : GraphEdge). AreFound e.graph old) (sym there) held.are

pub edges-preserved : goal.edges-preserved
edges-preserved c =
    let g = c.args.graph.now in
    let old = c.edges.found in
    let new = c.add_makers.new.found in
    let held = c.edges.invariant in
    let below : c.edges.place < length old.set.numbers =
    omega (arith, c.edges-test.true, ap length c.numbers.ensures.numbers) in
    let there = edge-there g old.edges.items old.set.numbers c.edges.place c.index-edge.result.now
    held.are.edges below c.index-edge.ensures in
    record {
      are = subst (λ (e : GraphEdge). AreFound e.graph new) there c.in_ok-add_makers.ensures.are;
      finds = serving-continues (edges_of g) old.set new.set c.edges.place below held.finds
          (subst (λ (e : GraphEdge). FindsMore (MakesOneOf (edges_of e.graph) (inputs_of (paths_of e)))
          old.set
          new.set) there c.in_ok-add_makers.ensures.more);
    }

pub returns : goal.returns
returns c =
    let past : length c.edges.found.set.numbers ≤ c.edges.place =
    omega (arith, c.edges-test.false, ap length c.numbers.ensures.numbers) in
    serving-ends (edges_of c.args.graph.now) c.edges.found.set c.edges.place past c.edges.invariant.finds
