use Rattle.std.proofs.Common.{map, take}
use Rattle.nj_ask.specs.MadeFrom.{TellMadeFrom}
use Rattle.nj_ask.proofs.made_files.made_from.Given as goal

abbrev pub invariant-files : goal.invariant-files
invariant-files l = TellMadeFrom l.graph (map (λ file. file.0) (take l.file-index l.files)) l.made.items
