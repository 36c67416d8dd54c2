use Rattle.nj_manifest.proofs.DyndepEntries.{entries_are}
use Rattle.nj_manifest.proofs.laws.dyndep_entries_are_the_forms.Goals as goal

pub returns : goal.returns
returns c = entries_are
