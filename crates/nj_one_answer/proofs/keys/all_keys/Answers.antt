use Rattle.std.proofs.Common.{map}
use Rattle.nj_graph.specs.Graph.{edges_of}
use Rattle.nj_keys.specs.Keys.{all_commands, edges_stated}
use Rattle.nj_one_answer.proofs.KeyAnswers.{keys-agree}
use Rattle.nj_one_answer.proofs.keys.all_keys.Goals as goal

pub returns : goal.returns
returns c = λ entries is. keys-agree c.lines_law.ensures.keys
    (map (λ text. text.now) c.args.additions.now) c.args.bases.now
    (edges_stated c.args.counts.now (edges_of c.args.graph.now)) entries (all_commands c.args.graph.now)
    c.all_keys.result c.all_keys-2.result (c.all_keys.ensures.keys entries is)
    (c.all_keys-2.ensures.keys entries is)
