use Rattle.nj_graph.specs.Graph.{edges_of}
use Rattle.nj_graph.specs.Targets.{picked}
use Rattle.nj_ask.proofs.PartLemmas.{says-err}
use Rattle.nj_ask.proofs.why.file_asked.Goals as goal

pub returns-in-Err-clause-refused : goal.returns-in-Err-clause-refused
returns-in-Err-clause-refused c =
    says-err (picked (edges_of c.args.known.now.graph) c.args.word.now) c.in-Err.fault c.in-Err.ensures
    c.of_fault.result c.of_fault.ensures
