use Rattle.nj_tools.proofs.JsonLemmas.{compdb_is_json}
use Rattle.nj_tools.proofs.laws.compdb_law.Goals as goal

pub returns : goal.returns
returns c = compdb_is_json
