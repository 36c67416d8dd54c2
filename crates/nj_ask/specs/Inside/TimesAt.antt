-- Times of the files at some paths, if all of them can be read.
use Rattle.std.specs.Prelude.{ℕ, Bool, false, Option, Some, None, List}
use Rattle.std.specs.Global.{Vec}
use Rattle.nj_discovered.specs.Times.{DeclaredTimes}
use Rattle.nj_state.specs.FileTimesFound.{HaveTimes}
use Rattle.nj_ask.specs.Settled.{LacksOneTime, are_current}

-- the times, or none where one of them cannot be read
abbrev pub AreTimesAt : DeclaredTimes → (paths : List (List ℕ)) → Option (Vec ℕ) → Type 0
AreTimesAt times paths (Some found) = HaveTimes times paths found.items
AreTimesAt times paths None = LacksOneTime times paths

-- outputs are up to date with inputs, by their times, if these are known
abbrev pub are_current_if : (outputs inputs : Option (Vec ℕ)) → Bool
are_current_if (Some outputs) (Some inputs) = are_current outputs.items inputs.items
are_current_if (Some outputs) None = false
are_current_if None inputs = false
