use Rattle.nj_manifest.proofs.DyndepVersionForms.{versions_are}
use Rattle.nj_manifest.proofs.laws.dyndep_versions_are_the_forms.Goals as goal

pub returns : goal.returns
returns c = versions_are
