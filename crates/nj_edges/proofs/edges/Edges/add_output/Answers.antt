use Rattle.std.proofs.Common.{◌∙◌, ap, not, sym}
use Rattle.nj_edges.proofs.AddLemmas.{made-held, made-is, made-table, output-held, output-table, within-all}
use Rattle.nj_edges.proofs.edges.Edges.add_output.Goals as goal

pub returns-then-is_some-clause-is_new : goal.returns-then-is_some-clause-is_new
returns-then-is_some-clause-is_new c =
    ap not (sym c.if-is_some.true ∙ c.is_some.ensures
    ∙ made-is _ _ c.self.invariant _ _ _ _ c.in_ok-file.ensures.named _ c.self.view_is c.maker.result
    c.maker.ensures.maker)

pub returns-then-is_some-clause-added : goal.returns-then-is_some-clause-added
returns-then-is_some-clause-added c =
    rw c.in_ok-reserve.ensures.items
    (made-table _ _ c.self.invariant _ _ _ _ c.in_ok-file.ensures.named _ c.self.view_is c.maker.result
    c.maker.ensures.maker (sym c.is_some.ensures ∙ c.if-is_some.true))

pub invariant_of-self-then-is_some : goal.invariant_of-self-then-is_some
invariant_of-self-then-is_some c =
    rw c.in_ok-reserve.ensures.items
    (made-held _ _ c.self.invariant _ _ _ _ c.in_ok-file.ensures.named _ c.self.view_is c.maker.result
    c.maker.ensures.maker (sym c.is_some.ensures ∙ c.if-is_some.true))

pub set-requires-clause-file : goal.set-requires-clause-file
set-requires-clause-file c = within-all _ _ c.self.invariant _ _ _ _ c.in_ok-file.ensures.named _
    c.self.view_is

pub invariant_of-self-2 : goal.invariant_of-self-2
invariant_of-self-2 c =
    rw (c.push_reserved.ensures.items, c.in_ok-reserve.ensures.items, c.set.ensures, c.count.ensures.count)
    (output-held _ _ c.self.invariant _ _ _ _ c.in_ok-file.ensures.named _ c.self.view_is c.maker.result
    c.maker.ensures.maker (sym c.is_some.ensures ∙ c.if-is_some.false))

pub returns-clause-is_new : goal.returns-clause-is_new
returns-clause-is_new c =
    ap not (sym c.if-is_some.false ∙ c.is_some.ensures
    ∙ made-is _ _ c.self.invariant _ _ _ _ c.in_ok-file.ensures.named _ c.self.view_is c.maker.result
    c.maker.ensures.maker)

pub returns-clause-added : goal.returns-clause-added
returns-clause-added c =
    rw (c.push_reserved.ensures.items, c.in_ok-reserve.ensures.items)
    (output-table _ _ c.self.invariant _ _ _ _ c.in_ok-file.ensures.named _ c.self.view_is c.maker.result
    c.maker.ensures.maker (sym c.is_some.ensures ∙ c.if-is_some.false))
