use Rattle.nj_text.proofs.SuspectLanes.{suspect_mask}
use Rattle.nj_text.proofs.path_lanes.suspects.Goals as goal

pub returns : goal.returns
returns c = suspect_mask c.args.bytes c.args.next c.fits-bytes.0 c.fits-next.0
