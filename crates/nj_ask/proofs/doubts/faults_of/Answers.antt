use Rattle.std.proofs.Common.{◌≡◌, ◌++◌, ◌<◌, ◌+◌, length, map, ap, sym, ◌∙◌, subst, arith}
use Rattle.std.proofs.lemmas.List.{take_all}
use Rattle.nj_graph.specs.Edges.{edges_from}
use Rattle.nj_graph.specs.Graph.{IsGraphOf}
use Rattle.nj_graph.specs.Handles.{GraphEdge, edge_of}
use Rattle.nj_audit.proofs.HandleLemmas.{all-from, next-from}
use Rattle.nj_discovered.specs.Discoveries.{found_at}
use Rattle.nj_ask.specs.DiscoveredGraphs.{fault_text, is_faulty}
use Rattle.nj_ask.specs.Inside.Findings.{if_faulty, text_if_faulty}
use Rattle.nj_ask.proofs.DoubtLemmas.{fault-texts-more}
use Rattle.nj_ask.proofs.FaultLemmas.{verdicts-more}
use Rattle.nj_ask.proofs.doubts.faults_of.Goals as goal

pub edges-init : goal.edges-init
edges-init c =
    let all = all-from c.args.graph.now c.into_iter-edge-iterator.result
    (c.into_iter-edge-iterator.ensures.into_iter_gives ∙ c.edges-edge-items.ensures) in
    record {
      place = 0;
      of = all.1;
      count = omega (arith, all.0);
      edges = ap (map (λ fault. fault.edge.0)) c.new-faults.ensures.items;
      texts = λ entries is. ap (map (λ fault. fault.text.items)) c.new-faults.ensures.items;
    }

pub edges-preserved : goal.edges-preserved
edges-preserved c =
    let found = c.args.found.now in
    let held = c.edges.invariant in
    let next = next-from c.args.graph.now (edge_of c.in-Some.edge) c.edges.edge-iterator c.next.new.self
    c.in-Some.ensures.steps held.place held.of in
    let number = ap (λ (edge : GraphEdge). edge.number) next.0 in
    let verdict = c.verdict-verdict.result.now in
    let is : verdict ≡ (found_at found held.place).verdict = c.verdict-verdict.ensures
    ∙ ap (λ n. (found_at found n).verdict) (c.number.ensures.number ∙ number) in
    let left = ap length c.in-Some.ensures.steps in
    let below : held.place < length found.edges = omega (arith, held.count, left, c.requires) in
    let before = map (λ fault. fault.edge.0) c.edges.faults.items in
    let texts = map (λ fault. fault.text.items) c.edges.faults.items in
    record {
      place = held.place + 1;
      of = next.1;
      count = omega (arith, held.count, left);
      edges = verdicts-more is_faulty found held.place before
          (map (λ fault. fault.edge.0) c.push_faulty.new.faults.items) verdict is
          (c.in_ok-push_faulty.ensures.edges ∙ ap (λ n. before ++ if_faulty verdict n) number) below
          held.edges;
      texts = λ entries of. fault-texts-more entries found held.place texts
          (map (λ fault. fault.text.items) c.push_faulty.new.faults.items) verdict is
          (c.in_ok-push_faulty.ensures.texts entries
          (subst (λ (edge : GraphEdge). IsGraphOf edge.graph entries) (sym next.0) of)
          ∙ ap (λ n. texts ++ text_if_faulty entries verdict n) number) below (held.texts entries of);
    }

pub returns : goal.returns
returns c =
    let found = c.args.found.now in
    let held = c.edges.invariant in
    let all = take_all held.place found.edges
    (omega (arith, held.count, ap length c.in-None.ensures.steps.0, c.requires)) in
    record {
      edges = held.edges ∙ ap (edges_from 0 (λ edge. is_faulty edge.verdict)) all;
      texts = λ entries is. held.texts entries is
          ∙ ap (λ edges. map (λ edge. fault_text entries edge (found_at found edge).verdict)
          (edges_from 0 (λ edge. is_faulty edge.verdict) edges)) all;
    }
