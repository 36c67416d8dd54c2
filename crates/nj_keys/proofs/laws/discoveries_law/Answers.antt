use Rattle.nj_keys.proofs.DiscoveryLaws.{change-no-key}
use Rattle.nj_keys.proofs.laws.discoveries_law.Goals as goal

pub returns : goal.returns
returns c = change-no-key
