use Rattle.nj_agreement.proofs.ReachedAnswers.{needed-agree}
use Rattle.nj_one_answer.proofs.graph.reached_edges.file_list_needed_edges.Goals as goal

pub returns : goal.returns
returns c = needed-agree c.args.list.now.graph c.args.list.now.paths c.needed_edges.result
    c.needed_edges-2.result
    c.needed_edges.ensures c.needed_edges-2.ensures
