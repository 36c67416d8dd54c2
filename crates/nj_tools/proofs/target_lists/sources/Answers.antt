use Rattle.std.proofs.Common.{◌≡◌, ◌∙◌, All, ap, sym, subst, flat_map}
use Rattle.nj_graph.specs.Handles.{GraphFile, edge_of}
use Rattle.nj_tools.specs.Inside.Collections.{Collection, sources_among, with_paths}
use Rattle.nj_tools.proofs.CollectedLemmas.{with-append, with-none}
use Rattle.nj_tools.proofs.EdgeLists.{edges-in, files-in, sources-all, sources_of}
use Rattle.nj_tools.proofs.target_lists.sources.Goals as goal

pub edges-init : goal.edges-init
edges-init c = record {
  graph = ap (λ (s : Collection). s.graph) c.in_ok-sources.ensures;
  all = rw (c.into_iter-edge-iterator.ensures.into_iter_gives, c.edges-edge-items.ensures)
      (edges-in c.args.graph.now _);
  paths = rw (
    c.into_iter-edge-iterator.ensures.into_iter_gives,
    c.edges-edge-items.ensures,
    c.in_ok-sources.ensures,
    sources-all c.args.graph.now,
  ) (with-none _);
}

pub add_sources-requires : goal.add_sources-requires
add_sources-requires c =
    subst (All (λ (file : GraphFile). file.graph ≡ c.edges.sources.graph)) (sym c.inputs.ensures)
    (files-in _ _ _ ((rw c.in-Some.ensures.steps at c.edges.invariant.all).0 ∙ sym c.edges.invariant.graph))

pub edges-preserved : goal.edges-preserved
edges-preserved c =
    let old = c.edges.sources.paths in
    let left = flat_map sources_of c.next.new.self in
    record {
      graph = c.in_ok-add_sources.ensures.graph ∙ c.edges.invariant.graph;
      all = (rw c.in-Some.ensures.steps at c.edges.invariant.all).1;
      paths = ap (λ ps. with_paths ps left) (c.in_ok-add_sources.ensures.paths
          ∙ ap (λ fs. with_paths old (sources_among fs)) c.inputs.ensures)
          ∙ sym (with-append old (sources_of (edge_of c.in-Some.edge)) left)
          ∙ (rw c.in-Some.ensures.steps at c.edges.invariant.paths);
    }
