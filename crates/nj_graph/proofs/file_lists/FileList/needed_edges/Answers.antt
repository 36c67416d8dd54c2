use Rattle.std.proofs.Common.{subst, map}
use Rattle.nj_names.specs.Files.{path_at}
use Rattle.nj_graph.specs.Graph.{files_of}
use Rattle.nj_graph.specs.Handles.{ListsNeeded, edges_in}
use Rattle.nj_graph.proofs.HandleLemmas.{needed-are}
use Rattle.nj_graph.proofs.file_lists.FileList.needed_edges.Goals as goal

pub returns : goal.returns
returns c =
    let found = c.in_ok-numbers in
    let graph = c.self.inside.graph.now in
    let edges = edges_in graph (map (λ edge. edge.0) found.numbers.items) in
    rw (← c.self.view_is)
    (subst (λ numbers. ListsNeeded graph (map (path_at (files_of graph)) numbers) edges)
    c.deref-2.ensures.value
    (needed-are graph c.deref.result.now c.deref-2.result.now found.numbers.items
    c.deref.ensures found.ensures.needed found.ensures.each_once found.ensures.nearest_first))
