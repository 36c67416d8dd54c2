use Rattle.std.proofs.Common.{◌≡◌, ◌+◌, drop}
use Rattle.nj_ask.specs.Inside.Lent.{texts}
use Rattle.nj_ask.specs.Since.{first_wrong}
use Rattle.nj_ask.proofs.since.first_wrong.Given as goal

abbrev pub invariant-lines : goal.invariant-lines
invariant-lines l = first_wrong (l.index + 1) (texts (drop l.index l.lines)) ≡ first_wrong 1 (texts l.lines)
