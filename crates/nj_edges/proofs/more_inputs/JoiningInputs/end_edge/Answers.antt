use Rattle.std.proofs.Common.{◌+◌, refl}
use Rattle.nj_edges.proofs.MarkLemmas.{next-marks}
use Rattle.nj_edges.proofs.more_inputs.JoiningInputs.end_edge.Goals as goal

pub invariant_of-self : goal.invariant_of-self
invariant_of-self c =
    next-marks (record { table = c.self.inside.edges; edge = c.self.inside.edge }) c.self.inside.marks.items
    c.self.invariant c.end_join.new.self (c.self.inside.edge + 1) c.mark_inputs.new.marks.items
    c.end_join.ensures refl c.mark_inputs.ensures
