use Rattle.std.proofs.Common.{take}
use Rattle.nj_state.specs.FileTimesFound.{HaveTimes}
use Rattle.nj_state.proofs.file_times.times_of.Given as goal

abbrev pub invariant-files : goal.invariant-files
invariant-files g l = HaveTimes (g.T.FileTimes.times l.times) (take l.number l.graph.files) l.found.items
