use Rattle.std.proofs.Common.{length, subst, sym}
use Rattle.nj_edges.specs.EdgeTables.{EdgeTable}
use Rattle.nj_edges.specs.Inside.EdgesHeld.{AreNumbers}
use Rattle.nj_edges.proofs.EdgeLemmas.{held-validations}
use Rattle.nj_edges.proofs.JoinedLemmas.{validations-table}
use Rattle.nj_edges.proofs.joined_edges.JoinedEdges.add_validations.Goals as goal

pub invariant_of-self-2 : goal.invariant_of-self-2
invariant_of-self-2 c =
    rw c.in_ok-extend_from_slice.ensures.items
    (held-validations _ _ c.self.invariant c.args.files.now
    (subst (λ (t : EdgeTable). AreNumbers (length t.files) c.args.files.now)
    (sym c.self.view_is) c.requires))

pub returns : goal.returns
returns c = rw c.in_ok-extend_from_slice.ensures.items (validations-table _ _ c.self.invariant _
    c.self.view_is c.args.files.now)
