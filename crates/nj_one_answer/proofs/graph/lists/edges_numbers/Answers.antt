use Rattle.std.proofs.Common.{sym, ◌∙◌}
use Rattle.nj_agreement.proofs.FileNumbers.{same-edges}
use Rattle.nj_one_answer.proofs.graph.lists.edges_numbers.Goals as goal

pub returns : goal.returns
returns c = λ graph numbers is. same-edges c.numbers.result.now c.numbers-2.result.now
    (c.numbers.ensures.numbers graph numbers is ∙ sym (c.numbers-2.ensures.numbers graph numbers is))
