use Rattle.nj_graph.proofs.Positions.{found-first}
use Rattle.nj_graph.proofs.response_files.first_position.Goals as goal

pub returns-clause-first : goal.returns-clause-first
returns-clause-first c = found-first c.args.part.now c.args.text.now c.find.result c.find.ensures
