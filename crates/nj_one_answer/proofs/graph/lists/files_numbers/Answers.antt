use Rattle.std.proofs.Common.{sym, ◌∙◌}
use Rattle.nj_graph.specs.Graph.{files_of}
use Rattle.nj_agreement.proofs.FileNumbers.{same-by-paths}
use Rattle.nj_one_answer.proofs.graph.lists.files_numbers.Goals as goal

pub returns : goal.returns
returns c = λ graph paths is distinct. same-by-paths (files_of graph) distinct c.numbers.result.now
    c.numbers-2.result.now (c.numbers.ensures.known graph paths is) (c.numbers-2.ensures.known graph paths is)
    (c.numbers.ensures.paths graph paths is ∙ sym (c.numbers-2.ensures.paths graph paths is))
