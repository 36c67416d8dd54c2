use Rattle.std.proofs.Common.{ap, map}
use Rattle.nj_names.specs.NameTables.{name_at}
use Rattle.nj_graph.specs.Graph.{files_of}
use Rattle.nj_graph.specs.Handles.{files_in}
use Rattle.nj_graph.proofs.RangeLemmas.{first-taken, none-left}
use Rattle.nj_graph.proofs.all_handles.AllFilesIterator.next.Goals as goal
use Rattle.nj_graph.proofs.all_handles.AllFilesIterator.next.Goals.{in-Some, in-None}

pub returns-clause-steps : goal.returns-clause-steps
returns-clause-steps c =
    let graph = c.self.inside.graph.now in
    let old = c.self.inside.left in
    let new = c.next.new.self in
    elim c.match-next.branch [
      | in-Some w ↦ rw (w.result-is, ← c.self.view_is)
          (ap (λ numbers. files_in graph (map (name_at (files_of graph)) numbers))
          (first-taken old.start old.end new.start new.end
          c.next.result w.in-Some.number c.next.ensures.steps w.in-Some.is))
      | in-None w ↦ rw (w.result-is, ← c.self.view_is)
          (let none = none-left old.start old.end new.start new.end c.next.result c.next.ensures.steps
          w.in-None.is in (
            ap (λ numbers. files_in graph (map (name_at (files_of graph)) numbers)) none.0,
            ap (λ numbers. files_in graph (map (name_at (files_of graph)) numbers)) none.1,
          ))
    ]
