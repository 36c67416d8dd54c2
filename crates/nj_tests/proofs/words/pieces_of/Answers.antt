use Rattle.std.proofs.Common.{◌∙◌}
use Rattle.nj_tests.proofs.WordLemmas.{all-pieces}
use Rattle.nj_tests.proofs.words.pieces_of.Goals as goal

pub returns : goal.returns
returns c =
    c.stretches.invariant
    ∙ all-pieces c.in_ok-stretches.stretches.items c.deref-stretch-items.result.now c.stretches.stretch-index
    c.args.word.now c.deref-stretch-items.ensures.value c.stretches-test.false c.in_ok-stretches.ensures
