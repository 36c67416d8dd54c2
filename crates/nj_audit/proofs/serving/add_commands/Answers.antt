use Rattle.std.proofs.Common.{◌≡◌, ◌+◌, true, false, length, sym, ap, subst, ◌∙◌, arith}
use Rattle.nj_edges.proofs.ChangeLemmas.{finds-none}
use Rattle.nj_edges.specs.Inside.ChangesHeld.{FindsMore}
use Rattle.nj_graph.specs.Edges.{edge_at}
use Rattle.nj_graph.specs.Graph.{edges_of}
use Rattle.nj_graph.specs.Handles.{GraphEdge, edge_of, paths_of}
use Rattle.nj_audit.specs.Inside.Served.{AreFound}
use Rattle.nj_audit.proofs.HandleLemmas.{all-from, next-from}
use Rattle.nj_audit.proofs.ServingLemmas.{finds-command, finds-phony, IsCommandBelow}
use Rattle.nj_audit.proofs.serving.add_commands.Goals as goal

pub edges-init : goal.edges-init
edges-init c =
    let g = c.args.graph.now in
    let all = all-from g c.into_iter-edge-iterator.result
    (c.into_iter-edge-iterator.ensures.into_iter_gives ∙ c.edges-edge-items.ensures) in
    record {
      place = 0;
      of = all.1;
      count = omega (arith, all.0);
      are = c.requires;
      finds = finds-none (IsCommandBelow (edges_of g) 0) c.args.found.now.set
          (λ e is. absurd (omega (arith, is.0)));
    }

pub add-requires : goal.add-requires
add-requires c =
    let held = c.edges.invariant in
    let next = next-from c.args.graph.now (edge_of c.in-Some.edge) c.edges.edge-iterator c.next.new.self
    c.in-Some.ensures.steps held.place held.of in
    subst (λ (e : GraphEdge). AreFound e.graph c.edges.found) (sym next.0) held.are

pub edges-preserved-in-Continue-1 : goal.edges-preserved-in-Continue-1
edges-preserved-in-Continue-1 c =
    let g = c.args.graph.now in
    let held = c.edges.invariant in
    let old = c.edges.found.set in
    let new = c.add.new.found in
    let next = next-from g (edge_of c.in-Some.edge) c.edges.edge-iterator c.next.new.self
    c.in-Some.ensures.steps held.place held.of in
    let ordinary : (edge_at (edges_of g) held.place).is_phony ≡ false =
    ap (λ (e : GraphEdge). (paths_of e).is_phony) (sym next.0) ∙ sym c.is_phony.ensures
    ∙ c.if-not-is_phony.true in
    record {
      place = held.place + 1;
      of = next.1;
      count = omega (arith, held.count, ap length c.in-Some.ensures.steps);
      are = subst (λ (e : GraphEdge). AreFound e.graph new) next.0 c.in_ok-add.ensures.are;
      finds = finds-command (edges_of g) held.place c.args.found.now.set old held.finds new.set ordinary
          (subst (λ (e : GraphEdge). FindsMore (λ n. n ≡ e.number) old new.set) next.0
          c.in_ok-add.ensures.more);
    }

pub edges-preserved : goal.edges-preserved
edges-preserved c =
    let g = c.args.graph.now in
    let held = c.edges.invariant in
    let next = next-from g (edge_of c.in-Some.edge) c.edges.edge-iterator c.next.new.self
    c.in-Some.ensures.steps held.place held.of in
    let phony : (edge_at (edges_of g) held.place).is_phony ≡ true =
    ap (λ (e : GraphEdge). (paths_of e).is_phony) (sym next.0) ∙ sym c.is_phony.ensures
    ∙ c.if-not-is_phony.false in
    record {
      place = held.place + 1;
      of = next.1;
      count = omega (arith, held.count, ap length c.in-Some.ensures.steps);
      are = held.are;
      finds = finds-phony (edges_of g) held.place c.args.found.now.set c.edges.found.set held.finds phony;
    }

pub returns : goal.returns
returns c =
    let held = c.edges.invariant in
    let all : held.place ≡ length (edges_of c.args.graph.now) =
    omega (arith, held.count, ap length c.in-None.ensures.steps.0) in
    record {
      are = held.are;
      more = subst (λ n. FindsMore (IsCommandBelow (edges_of c.args.graph.now) n) c.args.found.now.set
          c.edges.found.set) all held.finds;
    }
