use Rattle.std.proofs.Common.{[], ◌∷◌}
use Rattle.nj_graph.proofs.HandleLemmas.{needed-are}
use Rattle.nj_graph.proofs.handles.File.needed_edges.Goals as goal

pub returns : goal.returns
returns c =
    let found = c.in_ok-numbers in
    needed-are c.args.self.graph.now c.deref.result.now (c.args.self.number ∷ []) found.numbers.items
    c.deref.ensures found.ensures.needed found.ensures.each_once found.ensures.nearest_first
