use Rattle.nj_statements.proofs.DistinctOutputs.{no_two_makers}
use Rattle.nj_statements.proofs.laws.no_file_gets_two_makers.Goals as goal

pub returns : goal.returns
returns c = no_two_makers
