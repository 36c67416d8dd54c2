use Rattle.nj_keys.proofs.FieldLaws.{one-way}
use Rattle.nj_keys.proofs.laws.fields_law.Goals as goal

pub returns : goal.returns
returns c = one-way
