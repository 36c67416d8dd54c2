use Rattle.nj_edges.specs.Inside.EdgesHeld.{lists_of}
use Rattle.nj_edges.proofs.JoinedLemmas.{has-files}
use Rattle.nj_edges.proofs.edge_lists.EdgeLists.edge.Goals as goal

pub returns : goal.returns
returns c = λ files held.
    rw (
      c.part.ensures,
      c.part-2.ensures,
      c.part-3.ensures,
      c.deref.ensures.value,
      c.deref-2.ensures.value,
      c.deref-3.ensures.value,
    )
    (has-files files (lists_of c.args.self.now) held c.args.edge.0 c.row-row.result c.row-row.ensures)
