use Rattle.std.proofs.Common.{◌≡◌, ◌↔◌, ℕ, Contains, map, subst, rules}
use Rattle.nj_names.specs.Files.{path_at}
use Rattle.nj_graph.specs.Graph.{edges_of}
use Rattle.nj_edges.specs.Dirty.{IsDirty}
use Rattle.nj_c.specs.DirtyEdges.{unknown_edges}
use Rattle.nj_c.specs.Pages.{numbered, paths_of_files, AreKnown}
use Rattle.nj_c.specs.Inside.PagesHeld.{numbers_of}
use Rattle.nj_c.proofs.PageLemmas.{same-files}
use Rattle.nj_c.proofs.dirty_edges.dirtied.Goals as goal

pub returns : goal.returns
returns c =
    let g = c.in_ok-graph.graph.now in let numbers = c.args.numbers.now in let found = c.in_ok-edges in
    let edges = numbers_of found.edges.items in let given = numbers_of c.deref-3.result.now in
    let known : AreKnown g numbers = search rules in
    let are : c.deref-2.result.now ≡ numbered numbers = search rules in
    let unknown : given ≡ unknown_edges c.args.kept.now g = search rules in
    let dirty = same-files (λ e fs. (edge : ℕ)
    → Contains edges edge ↔ IsDirty e.edges (map (path_at e.files) fs) given edge)
    c.deref-graph.ensures are found.ensures.dirty in (
      g,
      c.in_ok-graph.ensures.found.0,
      known,
      (
        found.ensures.rises,
        subst (λ us. (edge : ℕ) → Contains edges edge
            ↔ IsDirty (edges_of g) (paths_of_files g numbers) us edge)
            unknown dirty,
        c.new-mark.ensures.items,
      ),
    )
