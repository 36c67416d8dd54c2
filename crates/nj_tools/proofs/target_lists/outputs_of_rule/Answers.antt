use Rattle.std.proofs.Common.{◌≡◌, ◌++◌, ◌∙◌, [], All, Bool, if◌then◌else◌, ap, bytes_eq, flat_map, map}
use Rattle.std.proofs.Common.{subst, sym}
use Rattle.nj_edges.specs.Edges.{outputs_of}
use Rattle.nj_graph.specs.Graph.{IsGraphOf}
use Rattle.nj_graph.specs.Handles.{GraphFile, edge_of, paths_of}
use Rattle.nj_tools.specs.Inside.Collections.{Collection, with_paths}
use Rattle.nj_tools.proofs.CollectedLemmas.{with-append, with-none}
use Rattle.nj_tools.proofs.EdgeLists.{edges-in, files-in, of_rule, paths-in, rule-all}
use Rattle.nj_tools.proofs.target_lists.outputs_of_rule.Goals as goal

pub edges-init : goal.edges-init
edges-init c = record {
  graph = ap (λ (s : Collection). s.graph) c.in_ok-outputs.ensures;
  all = rw (c.into_iter-edge-iterator.ensures.into_iter_gives, c.edges-edge-items.ensures)
      (edges-in c.args.graph.now _);
  paths = λ entries graph. rw (
    c.into_iter-edge-iterator.ensures.into_iter_gives,
    c.edges-edge-items.ensures,
    c.in_ok-outputs.ensures,
    rule-all c.args.graph.now entries graph,
  ) (with-none _);
}

pub add_all-requires : goal.add_all-requires
add_all-requires c =
    subst (All (λ (file : GraphFile). file.graph ≡ c.edges.outputs.graph)) (sym c.outputs.ensures)
    (files-in _ _ _ ((rw c.in-Some.ensures.steps at c.edges.invariant.all).0 ∙ sym c.edges.invariant.graph))

pub edges-preserved-in-Continue-branch-2 : goal.edges-preserved-in-Continue-branch-2
edges-preserved-in-Continue-branch-2 c =
    let all = rw c.in-Some.ensures.steps at c.edges.invariant.all in
    let edge = edge_of c.in-Some.edge in
    let old = c.edges.outputs.paths in
    let outputs = outputs_of (paths_of edge) in
    record {
      graph = c.in_ok-add_all.ensures.graph ∙ c.edges.invariant.graph;
      all = all.1;
      paths = λ entries graph.
          let rule = c.args.rule.now in
          let left = flat_map (of_rule entries rule) c.next.new.self in
          let named = ap (λ r. bytes_eq r rule)
          (sym (c.rule_name.ensures entries (subst (λ g. IsGraphOf g entries) (sym all.0) graph)))
          ∙ sym c.eq.ensures ∙ c.if-eq.true in
          let part = ap (λ (b : Bool). if b then outputs else []) (sym named) in
          ap (λ ps. with_paths ps left) (c.in_ok-add_all.ensures.paths
          ∙ ap (λ fs. with_paths old (map (λ (file : GraphFile). file.path) fs)) c.outputs.ensures
          ∙ ap (with_paths old) (paths-in edge.graph outputs ∙ part))
          ∙ sym (with-append old (of_rule entries rule edge) left)
          ∙ (rw c.in-Some.ensures.steps at c.edges.invariant.paths entries graph);
    }

pub edges-preserved : goal.edges-preserved
edges-preserved c =
    let all = rw c.in-Some.ensures.steps at c.edges.invariant.all in
    let edge = edge_of c.in-Some.edge in
    let old = c.edges.outputs.paths in
    let outputs = outputs_of (paths_of edge) in
    record {
      graph = c.edges.invariant.graph;
      all = all.1;
      paths = λ entries graph.
          let rule = c.args.rule.now in
          let left = flat_map (of_rule entries rule) c.next.new.self in
          let named = ap (λ r. bytes_eq r rule)
          (sym (c.rule_name.ensures entries (subst (λ g. IsGraphOf g entries) (sym all.0) graph)))
          ∙ sym c.eq.ensures ∙ c.if-eq.false in
          ap (λ (b : Bool). with_paths old ((if b then outputs else []) ++ left)) (sym named)
          ∙ (rw c.in-Some.ensures.steps at c.edges.invariant.paths entries graph);
    }

pub returns-clause-paths : goal.returns-clause-paths
returns-clause-paths c entries graph =
    ap (λ edges. with_paths c.edges.outputs.paths (flat_map (of_rule entries c.args.rule.now) edges))
    (sym c.in-None.ensures.steps.0) ∙ c.edges.invariant.paths entries graph
