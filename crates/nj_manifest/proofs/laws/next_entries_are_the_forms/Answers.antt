use Rattle.nj_manifest.proofs.DyndepNexts.{next_entries_are}
use Rattle.nj_manifest.proofs.laws.next_entries_are_the_forms.Goals as goal

pub returns : goal.returns
returns c = next_entries_are
