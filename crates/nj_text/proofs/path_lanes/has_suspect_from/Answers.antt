use Rattle.std.proofs.Common.{ap, ◌∙◌, not, eqb}
use Rattle.nj_text.specs.Inside.Cleaning.{suspects}
use Rattle.nj_text.proofs.SuspectLanes.{suspect_chunk, mask_any}
use lib.Lanes.{chunk, mask_l}
use Rattle.nj_text.proofs.path_lanes.has_suspect_from.Goals as goal

pub returns : goal.returns
returns c =
    let mask = c.suspects.ensures ∙ ap mask_l (suspect_chunk c.args.text.now c.args.start 16) in
    ap (λ m. not (eqb m 0)) mask ∙ mask_any (chunk c.args.start 16 (suspects c.args.text.now))
