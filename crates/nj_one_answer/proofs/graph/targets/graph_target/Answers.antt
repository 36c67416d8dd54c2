use Rattle.nj_graph.specs.Graph.{edges_of}
use Rattle.nj_graph.specs.Targets.{picked}
use Rattle.nj_agreement.proofs.TargetAnswers.{file-agrees}
use Rattle.nj_one_answer.proofs.graph.targets.graph_target.Goals as goal

pub returns : goal.returns
returns c =
    let g = c.args.graph.now in
    file-agrees g (picked (edges_of g) c.args.word.now) c.target.result c.target-2.result c.target.ensures
    c.target-2.ensures
