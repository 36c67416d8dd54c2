use Rattle.nj_agreement.proofs.ReachedAnswers.{affected-agree}
use Rattle.nj_one_answer.proofs.graph.reached_edges.file_list_affected_edges.Goals as goal

pub returns : goal.returns
returns c = affected-agree c.args.list.now.graph c.args.list.now.paths c.affected_edges.result
    c.affected_edges-2.result
    c.affected_edges.ensures c.affected_edges-2.ensures
