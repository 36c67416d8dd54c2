use Rattle.std.proofs.Common.{take}
use Rattle.nj_changes.specs.Tables.{SameNames}
use Rattle.nj_ask.specs.Manifest.{opened_paths}
use Rattle.nj_ask.proofs.opened.opened_paths.Given as goal

abbrev pub invariant-openings : goal.invariant-openings
invariant-openings l = SameNames l.paths (take l.index (opened_paths l.graph l.working))
