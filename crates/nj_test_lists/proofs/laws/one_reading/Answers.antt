use Rattle.nj_test_lists.proofs.LawLemmas.{same_reading}
use Rattle.nj_test_lists.proofs.laws.one_reading.Goals as goal

pub returns : goal.returns
returns c = same_reading
