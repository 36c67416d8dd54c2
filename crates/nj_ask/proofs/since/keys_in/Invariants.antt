use Rattle.std.proofs.Common.{take}
use Rattle.nj_changes.specs.Tables.{SameNames}
use Rattle.nj_ask.specs.Inside.Lent.{texts}
use Rattle.nj_ask.specs.Since.{keys_in}
use Rattle.nj_ask.proofs.since.keys_in.Given as goal

abbrev pub invariant-lines : goal.invariant-lines
invariant-lines l = SameNames l.names (keys_in (texts (take l.line-index l.lines)))
