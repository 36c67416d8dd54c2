use Rattle.nj_edges.proofs.JoiningLemmas.{ended-held, ended-table}
use Rattle.nj_edges.proofs.dyndep_edges.JoiningEdges.end_join.Goals as goal

pub invariant_of-self : goal.invariant_of-self
invariant_of-self c = rw (c.open_outputs.ensures, c.open_inputs.ensures)
    (ended-held _ _ _ _ c.self.invariant _ c.self.view_is c.args.edge.0 c.requires.known c.requires.first)

pub returns : goal.returns
returns c = rw (c.open_outputs.ensures, c.open_inputs.ensures)
    (ended-table _ _ _ _ c.self.invariant _ c.self.view_is c.args.edge.0 c.requires.known c.requires.first)
