use Rattle.std.proofs.Common.{◌≡◌, false, length}
use Rattle.std.specs.List.{slice_split}
use Rattle.nj_text.specs.Paths.{is_slash}
use Rattle.nj_text.specs.Inside.Cleaning.{all_stay}
use Rattle.nj_text.proofs.components.after_ups.Given as goal

abbrev pub invariant-ups : goal.invariant-ups
invariant-ups l = all_stay false (slice_split is_slash l.text) ≡ all_stay false (slice_split is_slash l.left)

abbrev pub decreases-ups : goal.decreases-ups
decreases-ups l = length l.left
