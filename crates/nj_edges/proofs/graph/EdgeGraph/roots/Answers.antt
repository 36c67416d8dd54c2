use Rattle.std.proofs.Common.{◌<◌, length, subst, sym}
use Rattle.std.specs.List.{All}
use Rattle.nj_names.specs.declared.files.FileNo.{FileNo}
use Rattle.nj_edges.specs.EdgeGraphs.{EdgeGraph}
use Rattle.nj_edges.specs.Edges.{roots_of}
use Rattle.nj_edges.specs.Inside.EdgesHeld.{edges_of, lists_of}
use Rattle.nj_edges.proofs.GraphLemmas.{files-known}
use Rattle.nj_edges.proofs.graph.EdgeGraph.roots.Goals as goal

pub returns-clause-known : goal.returns-clause-known
returns-clause-known c =
    let held = c.self.inside in
    let roots = roots_of (edges_of held.files (lists_of held.lists)) in
    subst (λ (g : EdgeGraph). All (λ (file : FileNo). file.0 < length g.files) c.as_slice.result.now)
    c.self.view_is
    (subst (All (λ (file : FileNo). file.0 < length held.files)) (sym c.as_slice.ensures.value)
    (files-known held.files held.roots.items roots c.self.invariant.roots_are))
