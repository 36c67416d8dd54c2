use Rattle.nj_edges.proofs.AddLemmas.{known-held, known-table}
use Rattle.nj_edges.proofs.edges.Edges.add_known_input.Goals as goal

pub invariant_of-self-2 : goal.invariant_of-self-2
invariant_of-self-2 c =
    rw c.in_ok-push.ensures.items
    (known-held _ _ c.self.invariant c.args.file _ c.self.view_is c.requires)

pub returns-clause-added : goal.returns-clause-added
returns-clause-added c = λ path here.
    rw c.in_ok-push.ensures.items
    (known-table _ _ c.self.invariant c.args.file _ c.self.view_is path here)
