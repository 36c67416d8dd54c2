use Rattle.nj_edges.proofs.AddLemmas.{input-held, input-table}
use Rattle.nj_edges.proofs.edges.Edges.add_input_named.Goals as goal

pub returns-clause-added : goal.returns-clause-added
returns-clause-added c =
    rw (c.push_reserved.ensures.items, c.in_ok-reserve.ensures.items)
    (input-table _ _ c.self.invariant _ _ _ _ c.in_ok-file.ensures.named _ c.self.view_is)

pub invariant_of-self-2 : goal.invariant_of-self-2
invariant_of-self-2 c =
    rw (c.push_reserved.ensures.items, c.in_ok-reserve.ensures.items)
    (input-held _ _ c.self.invariant _ _ _ _ c.in_ok-file.ensures.named _ c.self.view_is)
