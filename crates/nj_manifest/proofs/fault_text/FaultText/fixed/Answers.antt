use Rattle.nj_manifest.proofs.Shown.{shown_fixed}
use Rattle.nj_manifest.proofs.fault_text.FaultText.fixed.Goals as goal

pub returns-clause-shown : goal.returns-clause-shown
returns-clause-shown c = shown_fixed c.args.text.now
