use Rattle.nj_tools.proofs.TreeLaws.{depth-zero_shows_all}
use Rattle.nj_tools.proofs.laws.depth_law.Goals as goal

pub returns : goal.returns
returns c = depth-zero_shows_all
