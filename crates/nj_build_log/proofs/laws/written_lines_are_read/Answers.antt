use Rattle.nj_build_log.proofs.WrittenLemmas.{written_is_read}
use Rattle.nj_build_log.proofs.laws.written_lines_are_read.Goals as goal

pub returns : goal.returns
returns c = written_is_read
