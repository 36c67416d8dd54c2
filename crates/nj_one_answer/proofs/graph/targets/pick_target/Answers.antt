use Rattle.nj_graph.specs.Graph.{edges_of, files_of}
use Rattle.nj_graph.specs.Targets.{picked}
use Rattle.nj_agreement.proofs.TargetAnswers.{picks-agree}
use Rattle.nj_one_answer.proofs.graph.targets.pick_target.Goals as goal

pub returns : goal.returns
returns c =
    let g = c.args.graph.now in
    picks-agree (files_of g) c.files-files.ensures.each_path_once (picked (edges_of g) c.args.word.now)
    c.pick_target.result c.pick_target-2.result c.pick_target.ensures c.pick_target-2.ensures
