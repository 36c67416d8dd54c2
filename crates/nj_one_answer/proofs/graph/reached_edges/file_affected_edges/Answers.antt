use Rattle.std.proofs.Common.{[], ◌∷◌}
use Rattle.nj_graph.specs.Handles.{file_of}
use Rattle.nj_agreement.proofs.ReachedAnswers.{affected-agree}
use Rattle.nj_one_answer.proofs.graph.reached_edges.file_affected_edges.Goals as goal

pub returns : goal.returns
returns c = affected-agree (file_of c.args.file).graph ((file_of c.args.file).path ∷ [])
    c.affected_edges.result c.affected_edges-2.result
    c.affected_edges.ensures c.affected_edges-2.ensures
