use Rattle.std.proofs.Common.{map}
use Rattle.nj_graph.specs.declared.FileNo.{FileNo}
use Rattle.nj_one_answer.proofs.MadeAnswers.{made-agree}
use Rattle.nj_one_answer.proofs.asks.made_from.Goals as goal

pub returns : goal.returns
returns c = λ entries is. made-agree c.args.graph.now (map (λ (file : FileNo). file.0) c.args.files.now)
    entries
    is c.made_from.result c.made_from-2.result c.made_from.ensures c.made_from-2.ensures
