use Rattle.std.proofs.Common.{take}
use Rattle.nj_changes.specs.Tables.{HasMore}
use Rattle.nj_chosen.specs.Reasons.{without}
use Rattle.nj_reached.proofs.noticed.add_others.Given as goal

abbrev pub invariant-names : goal.invariant-names
invariant-names l = HasMore l.fn.names (without l.others (take l.number l.table)) l.names
