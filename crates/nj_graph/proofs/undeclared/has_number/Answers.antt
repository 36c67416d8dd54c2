use Rattle.std.proofs.Common.{sym, ◌∙◌}
use Rattle.nj_graph.proofs.UndeclaredLemmas.{has-at, has-more, has-none}
use Rattle.nj_graph.proofs.undeclared.has_number.Goals as goal

pub numbers-preserved : goal.numbers-preserved
numbers-preserved c = has-more c.args.numbers.now c.numbers.number-index c.args.wanted.0 _ c.numbers-test.true
    c.numbers.invariant (sym c.eq.ensures ∙ c.if-eq.false)

pub returns-then-eq : goal.returns-then-eq
returns-then-eq c = has-at c.args.numbers.now c.numbers.number-index c.args.wanted.0 _ c.numbers-test.true
    (sym c.eq.ensures ∙ c.if-eq.true)

pub returns : goal.returns
returns c = has-none c.args.numbers.now c.numbers.number-index c.args.wanted.0 c.numbers-test.false
    c.numbers.invariant
