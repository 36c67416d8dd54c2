use Rattle.std.proofs.Common.{map}
use Rattle.nj_graph.specs.Graph.{edges_of}
use Rattle.nj_keys.specs.Keys.{edges_stated}
use Rattle.nj_one_answer.proofs.KeyAnswers.{pages-agree}
use Rattle.nj_one_answer.proofs.keys.page_from.Goals as goal

pub returns : goal.returns
returns c = λ entries is. pages-agree c.lines_law.ensures.unique
    (map (λ text. text.now) c.args.additions.now) c.args.bases.now
    (edges_stated c.args.counts.now (edges_of c.args.targets.now.graph)) c.args.targets.now entries
    is c.args.mark.now c.args.take
    c.page_from.result c.page_from-2.result c.page_from.ensures.valid c.page_from.ensures.refused
    (c.page_from.ensures.lines entries is) c.page_from.ensures.mark c.page_from-2.ensures.valid
    c.page_from-2.ensures.refused (c.page_from-2.ensures.lines entries is) c.page_from-2.ensures.mark
