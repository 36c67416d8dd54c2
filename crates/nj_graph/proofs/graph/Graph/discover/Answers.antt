use Rattle.std.proofs.Common.{◌≡◌, ◌∙◌, ◌+◌, ◌++◌, ap, arith, length, subst, sym}
use Rattle.std.proofs.lemmas.List.{length-map}
use Rattle.std.specs.Prelude.{codes}
use Rattle.nj_discovered.specs.Discoveries.{AddsEdge, DiscoveriesModel}
use Rattle.nj_edges.specs.EdgeGraphs.{EdgeGraph}
use Rattle.nj_edges.specs.Edges.{edge_at}
use Rattle.nj_statements.specs.EdgeList.{edges_read}
use Rattle.nj_graph.specs.Graph.{late_text_of}
use Rattle.nj_graph.specs.Inside.EdgesDiscovered.{AreFirstDiscovered}
use Rattle.nj_graph.proofs.DiscoveredLemmas.{first-more, later-trans}
use Rattle.nj_graph.proofs.graph.Graph.discover.Goals as goal

pub edges-preserved : goal.edges-preserved
edges-preserved g c =
    let start = g.S.FileSource.state c.args.files.now in
    let before = g.S.FileSource.state c.edges.files in
    let after = g.S.FileSource.state c.with_edge.new.files in
    let times = g.T.FileTimes.times c.args.times.now in
    let log = c.args.log.now in
    let edge = c.edges.number in
    let deps = c.deref.result.now in
    let depfile = c.deref-in-edges.result.now in
    let old = c.edges.finder.found in
    let new = c.in_ok-finder-2.finder.found in
    let adds = c.in_ok-finder-2.ensures.added in
    record {
      later = later-trans start before after c.edges.invariant.later c.with_edge.ensures.later;
      edges = c.in_ok-finder-2.ensures.edges ∙ c.edges.invariant.edges;
      log = c.in_ok-finder-2.ensures.log ∙ c.edges.invariant.log;
      count = adds.count ∙ ap (λ n. n + 1) c.edges.invariant.count;
      found = λ entries is.
          first-more start before after times log entries edge deps depfile old new c.edges.invariant.later
          c.with_edge.ensures.later (c.edges.invariant.found entries is) c.edges.invariant.count
          (c.deref.ensures.value ∙ c.in_ok-append_variable.ensures.appended entries is
          ∙ ap (λ text. text ++ late_text_of entries edge (codes "deps")) c.clear.ensures.items)
          (c.deref-in-edges.ensures.value ∙ c.in_ok-append_variable-2.ensures.appended entries is
          ∙ ap (λ text. text ++ late_text_of entries edge (codes "depfile"))
          c.clear-in-edges.ensures.items)
          (subst (λ edges. AddsEdge before after times log (edge_at edges (length old.edges)) deps depfile old
          new) (c.edges.invariant.edges ∙ is.built.paths)
          (subst (λ l. AddsEdge before after times l (edge_at c.edges.finder.edges (length old.edges)) deps
          depfile old new) c.edges.invariant.log
          (subst (λ n. AddsEdge before after times c.edges.finder.log (edge_at c.edges.finder.edges n) deps
          depfile old new) (sym c.edges.invariant.count) adds)));
    }

pub returns-clause-count : goal.returns-clause-count
returns-clause-count g c =
    let ends : c.edges.number ≡ length c.args.self.now.built.graph.edges =
    let graph = ap (λ (v : EdgeGraph). length v.edges) c.deref-graph.ensures in
    omega (arith, graph, c.edge_count-number-end.ensures.count) in
    ap (λ (d : DiscoveriesModel). length d.edges) c.finish.ensures ∙ c.edges.invariant.count ∙ ends

pub returns-clause-discovered : goal.returns-clause-discovered
returns-clause-discovered g c = λ entries is.
    let start = g.S.FileSource.state c.args.files.now in
    let after = g.S.FileSource.state c.edges.files in
    let times = g.T.FileTimes.times c.args.times.now in
    let log = c.args.log.now in
    let ends : c.edges.number ≡ length c.args.self.now.built.graph.edges =
    let graph = ap (λ (v : EdgeGraph). length v.edges) c.deref-graph.ensures in
    omega (arith, graph, c.edge_count-number-end.ensures.count) in
    let all : c.edges.number ≡ length (edges_read entries) =
    ends ∙ ap length is.built.paths ∙ length-map (edges_read entries) (λ e. e.paths) in
    let found = subst (λ n. AreFirstDiscovered start after times log entries n c.finish.result) all
    (subst (AreFirstDiscovered start after times log entries c.edges.number) (sym c.finish.ensures)
    (c.edges.invariant.found entries is)) in
    record {
      count = ap (λ (d : DiscoveriesModel). length d.edges) c.finish.ensures ∙ c.edges.invariant.count
          ∙ all;
      each = found;
    }
