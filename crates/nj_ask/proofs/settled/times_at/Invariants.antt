use Rattle.std.proofs.Common.{map, take}
use Rattle.nj_names.specs.Files.{path_at}
use Rattle.nj_state.specs.FileTimesFound.{HaveTimes}
use Rattle.nj_ask.proofs.settled.times_at.Given as goal

abbrev pub invariant-files : goal.invariant-files
invariant-files g l =
    HaveTimes (g.T.FileTimes.times l.times) (map (path_at l.graph.files) (take l.file-index l.files))
    l.found.items
