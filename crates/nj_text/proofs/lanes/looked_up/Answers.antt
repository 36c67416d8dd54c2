use Rattle.nj_text.proofs.LookedUp.{places_ok, looked_up as lanes_looked_up}
use Rattle.nj_text.proofs.lanes.looked_up.Goals as goal

pub swizzle : goal.swizzle
swizzle c = places_ok c.args.lanes c.fits-lanes.0

pub returns : goal.returns
returns c = lanes_looked_up c.args.table c.args.lanes c.fits-lanes.0
