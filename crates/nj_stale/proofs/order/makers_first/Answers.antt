use Rattle.std.proofs.Common.{arith, ◌∙◌, subst, sym}
use Rattle.std.proofs.lemmas.List.{take_all}
use Rattle.nj_stale.specs.Numbered.{IsOrderOfAll}
use Rattle.nj_stale.proofs.OrderLemmas.{is_order}
use Rattle.nj_stale.proofs.order.makers_first.Goals as goal

pub returns : goal.returns
returns c =
    subst (IsOrderOfAll c.args.graph.now.edges)
    (sym (c.numbers.invariant ∙ take_all c.numbers.index c.in_ok-numbers.numbers.items
    (omega (arith, c.len-index-end.ensures, c.numbers-test.false))))
    (is_order c.args.graph.now.edges c.in_ok-numbers.numbers.items c.in_ok-numbers.ensures)
