use Rattle.nj_manifest.proofs.FormsStatements.{are_the_forms}
use Rattle.nj_manifest.proofs.laws.statements_are_the_forms.Goals as goal

pub returns : goal.returns
returns c = are_the_forms
