use Rattle.nj_deps.proofs.LawLemmas.{says_one_thing}
use Rattle.nj_deps.proofs.laws.bytes_say_one_thing.Goals as goal

pub returns : goal.returns
returns c = says_one_thing
