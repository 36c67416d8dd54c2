use Rattle.std.proofs.Common.{◌≡◌, take}
use Rattle.std.specs.List.{flat_map}
use Rattle.nj_text.specs.Quotes.{within_quotes}
use Rattle.nj_text.proofs.quotes.first_run.Given as goal

abbrev pub invariant-loop-end : goal.invariant-loop-end
invariant-loop-end l = flat_map within_quotes (take l.end l.text) ≡ take l.end l.text
