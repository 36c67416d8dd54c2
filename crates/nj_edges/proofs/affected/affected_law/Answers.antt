use Rattle.nj_edges.proofs.ChangeLaws.{affected_edges_need_the_files}
use Rattle.nj_edges.proofs.affected.affected_law.Goals as goal

pub returns : goal.returns
returns c = affected_edges_need_the_files
