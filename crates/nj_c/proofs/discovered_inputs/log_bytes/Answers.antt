use Rattle.std.proofs.Common.{sym, ap}
use Rattle.nj_c.specs.DiscoveredInputs.{log_bytes}
use Rattle.nj_c.proofs.LoadLemmas.{none-counted}
use Rattle.nj_c.proofs.discovered_inputs.log_bytes.Goals as goal

pub returns-then-is_empty : goal.returns-then-is_empty
returns-then-is_empty c = sym (ap log_bytes (none-counted c.args.bytes.now c.if-is_empty.ensures))
