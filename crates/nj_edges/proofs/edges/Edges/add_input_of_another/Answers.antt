use Rattle.std.proofs.Common.{◌∙◌, sym}
use Rattle.nj_edges.proofs.AddLemmas.{own-held, own-table, other-table, input-held}
use Rattle.nj_edges.proofs.edges.Edges.add_input_of_another.Goals as goal

pub returns-then-is_made_by-clause-added : goal.returns-then-is_made_by-clause-added
returns-then-is_made_by-clause-added c =
    let is = rw c.count.ensures.count at c.is_made_by.ensures in
    rw c.in_ok-reserve.ensures.items
    (own-table _ _ c.self.invariant _ _ _ _ c.in_ok-file.ensures.named _ c.self.view_is
    (sym is ∙ c.if-is_made_by.true))

pub invariant_of-self-then-is_made_by : goal.invariant_of-self-then-is_made_by
invariant_of-self-then-is_made_by c =
    let is = rw c.count.ensures.count at c.is_made_by.ensures in
    rw c.in_ok-reserve.ensures.items
    (own-held _ _ c.self.invariant _ _ _ _ c.in_ok-file.ensures.named _ c.self.view_is
    (sym is ∙ c.if-is_made_by.true))

pub invariant_of-self-2 : goal.invariant_of-self-2
invariant_of-self-2 c =
    rw (c.push_reserved.ensures.items, c.in_ok-reserve.ensures.items)
    (input-held _ _ c.self.invariant _ _ _ _ c.in_ok-file.ensures.named _ c.self.view_is)

pub returns-clause-added : goal.returns-clause-added
returns-clause-added c =
    let is = rw c.count.ensures.count at c.is_made_by.ensures in
    rw (c.push_reserved.ensures.items, c.in_ok-reserve.ensures.items)
    (other-table _ _ c.self.invariant _ _ _ _ c.in_ok-file.ensures.named _ c.self.view_is
    (sym is ∙ c.if-is_made_by.false))
