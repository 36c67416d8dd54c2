use Rattle.std.proofs.Common.{sym, ◌∙◌}
use Rattle.nj_one_answer.proofs.graph.edge_words.graph_scope_value.Goals as goal

pub returns : goal.returns
returns c = λ entries is around within. c.scope_value.ensures.within entries around is within
    ∙ sym (c.scope_value-2.ensures.within entries around is within)
