use Rattle.std.proofs.Common.{◌≡◌, false, take}
use Rattle.std.specs.List.{list_any}
use Rattle.nj_text.specs.Paths.{is_slash}
use Rattle.nj_text.proofs.components.first_component.Given as goal

abbrev pub invariant-loop-end : goal.invariant-loop-end
invariant-loop-end l = list_any is_slash (take l.end l.text) ≡ false
