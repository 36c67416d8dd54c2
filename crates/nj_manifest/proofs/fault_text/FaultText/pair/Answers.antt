use Rattle.nj_manifest.proofs.Shown.{shown_pair}
use Rattle.nj_manifest.proofs.fault_text.FaultText.pair.Goals as goal

pub returns-clause-shown : goal.returns-clause-shown
returns-clause-shown c = shown_pair c.args.before.now c.args.after.now
