use Rattle.nj_statements.proofs.DyndepFiles.{files_come_once}
use Rattle.nj_statements.proofs.laws.dyndep_files_come_once.Goals as goal

pub returns : goal.returns
returns c = files_come_once
