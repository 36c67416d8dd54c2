use Rattle.std.proofs.Common.{◌∙◌, sym}
use Rattle.nj_edges.proofs.AddLemmas.{known-held, known-other-table, known-own-table, known-within}
use Rattle.nj_edges.proofs.edges.Edges.add_known_input_of_another.Goals as goal

pub is_made_by-requires : goal.is_made_by-requires
is_made_by-requires c = known-within _ _ c.self.invariant c.args.file _ c.self.view_is c.requires

pub returns-then-is_made_by-clause-added : goal.returns-then-is_made_by-clause-added
returns-then-is_made_by-clause-added c = λ path here.
    let is = rw c.count-edge.ensures.count at c.is_made_by.ensures in
    known-own-table _ _ c.self.invariant c.args.file _ c.self.view_is path here
    (sym is ∙ c.if-is_made_by.true)

pub invariant_of-self-2 : goal.invariant_of-self-2
invariant_of-self-2 c =
    rw c.in_ok-push.ensures.items
    (known-held _ _ c.self.invariant c.args.file _ c.self.view_is c.requires)

pub returns-clause-added : goal.returns-clause-added
returns-clause-added c = λ path here.
    let is = rw c.count-edge.ensures.count at c.is_made_by.ensures in
    rw c.in_ok-push.ensures.items
    (known-other-table _ _ c.self.invariant c.args.file _ c.self.view_is path here
    (sym is ∙ c.if-is_made_by.false))
