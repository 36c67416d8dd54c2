use Rattle.std.proofs.Common.{◌≡◌, length}
use Rattle.std.specs.Option.{option_copied}
use Rattle.std.specs.List.{slice_split}
use Rattle.nj_text.specs.Paths.{is_slash}
use Rattle.nj_text.specs.Inside.Cleaning.{components_left, all_stay}
use Rattle.nj_text.proofs.components.each_stays.Given as goal

abbrev pub invariant-components : goal.invariant-components
invariant-components l = all_stay l.named (components_left (option_copied l.rest))
    ≡ all_stay l.fn.named (slice_split is_slash l.text)

abbrev pub decreases-components : goal.decreases-components
decreases-components l = length (components_left (option_copied l.rest))
