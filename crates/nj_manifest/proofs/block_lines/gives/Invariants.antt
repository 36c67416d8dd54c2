use Rattle.std.proofs.Common.{◌≡◌, take}
use Rattle.nj_manifest.specs.Statements.{gives}
use Rattle.nj_manifest.specs.Contents.{lines_model}
use Rattle.nj_manifest.proofs.block_lines.gives.Given as goal

abbrev pub invariant-lines : goal.invariant-lines
invariant-lines l = l.given ≡ gives l.key (lines_model (take l.line-index l.lines))
