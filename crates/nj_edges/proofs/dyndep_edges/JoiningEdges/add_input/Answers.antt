use Rattle.nj_edges.proofs.JoiningLemmas.{input-held, input-table}
use Rattle.nj_edges.proofs.dyndep_edges.JoiningEdges.add_input.Goals as goal

pub invariant_of-self : goal.invariant_of-self
invariant_of-self c = input-held _ _ _ _ c.self.invariant _ c.args.path.now c.add_input_named.result
    c.add_input_named.ensures.added c.add_input_named.ensures.refused

pub returns-clause-added : goal.returns-clause-added
returns-clause-added c = input-table _ _ _ _ c.self.invariant _ c.args.path.now _ c.self.view_is
    c.add_input_named.result c.add_input_named.ensures.added
