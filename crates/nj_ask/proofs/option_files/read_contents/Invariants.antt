use Rattle.std.proofs.Common.{map, take}
use Rattle.std.specs.Prelude.{string_bytes}
use Rattle.nj_ask.specs.OptionFiles.{ReadsContents}
use Rattle.nj_ask.proofs.option_files.read_contents.Given as goal

abbrev pub invariant-paths : goal.invariant-paths
invariant-paths g l = ReadsContents (g.S.FileSource.state l.fn.files)
    (map string_bytes (take l.path-index l.paths)) (g.S.FileSource.state l.files)
    (map (λ addition. addition.items) l.additions.items)
