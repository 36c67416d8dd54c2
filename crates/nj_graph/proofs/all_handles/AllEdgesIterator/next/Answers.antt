use Rattle.std.proofs.Common.{ap}
use Rattle.nj_graph.specs.Handles.{edges_in}
use Rattle.nj_graph.proofs.RangeLemmas.{first-taken, none-left}
use Rattle.nj_graph.proofs.all_handles.AllEdgesIterator.next.Goals as goal
use Rattle.nj_graph.proofs.all_handles.AllEdgesIterator.next.Goals.{in-Some, in-None}

pub returns-clause-steps : goal.returns-clause-steps
returns-clause-steps c =
    let graph = c.self.inside.graph.now in
    let old = c.self.inside.left in
    let new = c.next.new.self in
    elim c.match-next.branch [
      | in-Some w ↦ rw (w.result-is, ← c.self.view_is)
          (ap (edges_in graph) (first-taken old.start old.end new.start new.end
          c.next.result w.in-Some.number c.next.ensures.steps w.in-Some.is))
      | in-None w ↦ rw (w.result-is, ← c.self.view_is)
          (let none = none-left old.start old.end new.start new.end c.next.result c.next.ensures.steps
          w.in-None.is in (ap (edges_in graph) none.0, ap (edges_in graph) none.1))
    ]
