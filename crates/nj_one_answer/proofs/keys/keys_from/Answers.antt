use Rattle.std.proofs.Common.{map}
use Rattle.nj_graph.specs.Graph.{edges_of}
use Rattle.nj_keys.specs.Keys.{edges_stated}
use Rattle.nj_one_answer.proofs.KeyAnswers.{key_pages-agree}
use Rattle.nj_one_answer.proofs.keys.keys_from.Goals as goal

pub returns : goal.returns
returns c = λ entries is. key_pages-agree c.lines_law.ensures.keys
    (map (λ text. text.now) c.args.additions.now) c.args.bases.now
    (edges_stated c.args.counts.now (edges_of c.args.targets.now.graph)) c.args.targets.now entries
    is c.args.mark.now c.args.take
    c.keys_from.result c.keys_from-2.result c.keys_from.ensures.valid c.keys_from.ensures.refused
    (c.keys_from.ensures.keys entries is) c.keys_from.ensures.mark c.keys_from-2.ensures.valid
    c.keys_from-2.ensures.refused (c.keys_from-2.ensures.keys entries is) c.keys_from-2.ensures.mark
