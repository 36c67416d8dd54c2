use Rattle.nj_graph.proofs.HandleLemmas.{number-is}
use Rattle.nj_graph.proofs.handles.File.number.Goals as goal

pub returns-clause-place : goal.returns-clause-place
returns-clause-place c =
    number-is c.args.self.graph.now c.args.self.number.0
    (rw c.deref.ensures at c.file_count-count.ensures.each_path_once) c.args.self.known
