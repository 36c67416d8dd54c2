use Rattle.std.proofs.Common.{take}
use Rattle.nj_ask.specs.Inside.Reached.{numbers_of, AreFullPaths}
use Rattle.nj_ask.proofs.changes.full_paths.Given as goal

abbrev pub invariant-files : goal.invariant-files
invariant-files l = AreFullPaths l.graph l.working (numbers_of (take l.file-index l.files)) l.names
