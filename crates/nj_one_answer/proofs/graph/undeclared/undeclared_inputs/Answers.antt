use Rattle.nj_graph.specs.Graph.{files_of}
use Rattle.nj_agreement.proofs.UndeclaredAnswers.{undeclared-agree}
use Rattle.nj_one_answer.proofs.graph.undeclared.undeclared_inputs.Goals as goal

pub returns : goal.returns
returns c = λ entries is. undeclared-agree (files_of c.args.graph.now) c.files-files.ensures.each_path_once
    c.args.log.now entries c.undeclared_inputs.result c.undeclared_inputs-2.result
    (c.undeclared_inputs.ensures.undeclared entries is) (c.undeclared_inputs-2.ensures.undeclared entries is)
    c.undeclared_inputs.ensures.files c.undeclared_inputs-2.ensures.files
