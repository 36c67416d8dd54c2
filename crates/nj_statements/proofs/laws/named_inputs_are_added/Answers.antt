use Rattle.nj_statements.proofs.LoggedLemmas.{named_inputs}
use Rattle.nj_statements.proofs.laws.named_inputs_are_added.Goals as goal

pub returns : goal.returns
returns c = named_inputs
