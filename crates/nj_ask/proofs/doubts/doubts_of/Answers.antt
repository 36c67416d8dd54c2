use Rattle.std.proofs.Common.{◌≡◌, ◌<◌, ◌+◌, ◌++◌, All, length, map, refl, ap, sym, ◌∙◌, subst, arith}
use Rattle.std.specs.List.{flat_map, range_with_len}
use Rattle.std.proofs.lemmas.List.{take_all}
use Rattle.nj_graph.specs.declared.EdgeNo.{EdgeNo}
use Rattle.nj_graph.specs.Edges.{edges_from}
use Rattle.nj_graph.specs.Graph.{IsGraphOf}
use Rattle.nj_graph.specs.Handles.{GraphEdge, edge_of}
use Rattle.nj_audit.proofs.HandleLemmas.{all-from, next-from}
use Rattle.nj_discovered.specs.Discoveries.{found_at}
use Rattle.nj_ask.specs.DiscoveredGraphs.{doubt_line, is_doubtful}
use Rattle.nj_ask.specs.Inside.Findings.{if_doubtful}
use Rattle.nj_ask.proofs.DoubtLemmas.{lines-more}
use Rattle.nj_ask.proofs.FaultLemmas.{verdicts-below, verdicts-more}
use Rattle.nj_ask.proofs.doubts.doubts_of.Goals as goal

pub edges-init : goal.edges-init
edges-init c =
    let all = all-from c.args.graph.now c.into_iter-edge-iterator.result
    (c.into_iter-edge-iterator.ensures.into_iter_gives ∙ c.edges-edge-items.ensures) in
    record {
      place = 0;
      of = all.1;
      count = omega (arith, all.0);
      edges = ap (map (λ (edge : EdgeNo). edge.0)) c.new-edges.ensures.items;
      lines = λ entries is. c.new-lines.ensures.items;
    }

pub edges-preserved : goal.edges-preserved
edges-preserved c =
    let found = c.args.found.now in
    let held = c.edges.invariant in
    let next = next-from c.args.graph.now (edge_of c.in-Some.edge) c.edges.edge-iterator c.next.new.self
    c.in-Some.ensures.steps held.place held.of in
    let number = ap (λ (edge : GraphEdge). edge.number) next.0 in
    let verdict = c.verdict-verdict.result.now in
    let is : verdict ≡ (found_at found held.place).verdict = c.verdict-verdict.ensures
    ∙ ap (λ n. (found_at found n).verdict) (c.number.ensures.number ∙ number) in
    let left = ap length c.in-Some.ensures.steps in
    let below : held.place < length found.edges = omega (arith, held.count, left, c.requires) in
    let before = map (λ (edge : EdgeNo). edge.0) c.edges.edges.items in
    let lines = c.edges.lines.items in
    record {
      place = held.place + 1;
      of = next.1;
      count = omega (arith, held.count, left);
      edges = verdicts-more is_doubtful found held.place before
          (map (λ edge. edge.0) c.push_edge.new.edges.items) verdict is
          (c.in_ok-push_edge.ensures.edges ∙ ap (λ n. before ++ if_doubtful verdict n) number) below
          held.edges;
      lines = λ entries of. lines-more entries found held.place lines c.push_edge.new.lines.items verdict is
          (c.in_ok-push_edge.ensures.line entries
          (subst (λ (edge : GraphEdge). IsGraphOf edge.graph entries) (sym next.0) of)
          ∙ ap (λ n. lines ++ doubt_line entries n verdict) number) (held.lines entries of);
    }

pub returns-clause-edges : goal.returns-clause-edges
returns-clause-edges c =
    let found = c.args.found.now in
    let held = c.edges.invariant in
    let all = take_all held.place found.edges
    (omega (arith, held.count, ap length c.in-None.ensures.steps.0, c.requires)) in
    held.edges ∙ ap (edges_from 0 (λ edge. is_doubtful edge.verdict)) all

pub returns-clause-known : goal.returns-clause-known
returns-clause-known c =
    let found = c.args.found.now in
    let held = c.edges.invariant in
    let edges = c.edges.edges.items in
    let all = take_all held.place found.edges
    (omega (arith, held.count, ap length c.in-None.ensures.steps.0, c.requires)) in
    subst (λ n. All (λ (edge : EdgeNo). edge.0 < n) edges) c.requires
    (verdicts-below is_doubtful found refl edges
    (held.edges ∙ ap (edges_from 0 (λ edge. is_doubtful edge.verdict)) all))

pub returns-clause-lines : goal.returns-clause-lines
returns-clause-lines c = λ entries is.
    let found = c.args.found.now in
    let held = c.edges.invariant in
    let all : held.place ≡ length found.edges =
    omega (arith, held.count, ap length c.in-None.ensures.steps.0, c.requires) in
    held.lines entries is
    ∙ ap (λ n. flat_map (λ edge. doubt_line entries edge (found_at found edge).verdict) (range_with_len 0 n))
    all
