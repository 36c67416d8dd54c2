use Rattle.std.proofs.Common.{[], ◌∷◌}
use Rattle.nj_graph.specs.Handles.{file_of}
use Rattle.nj_agreement.proofs.ReachedAnswers.{needed-agree}
use Rattle.nj_one_answer.proofs.graph.reached_edges.file_needed_edges.Goals as goal

pub returns : goal.returns
returns c = needed-agree (file_of c.args.file).graph ((file_of c.args.file).path ∷ []) c.needed_edges.result
    c.needed_edges-2.result
    c.needed_edges.ensures c.needed_edges-2.ensures
