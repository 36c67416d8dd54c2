use Rattle.std.proofs.Common.{map, take}
use Rattle.nj_ask.specs.Inside.Flags.{AreFlags}
use Rattle.nj_ask.proofs.manifest.file_flags.Given as goal

abbrev pub invariant-files : goal.invariant-files
invariant-files l = AreFlags l.count (map (λ file. file.0) (take l.file-index l.files)) l.flags.items
