use Rattle.nj_manifest.specs.Contents.{lines_model}
use Rattle.nj_manifest.proofs.BlockLines.{StillReads, lines_left}
use Rattle.nj_manifest.proofs.block_lines.block.Given as goal

abbrev pub invariant-lines : goal.invariant-lines
invariant-lines l = StillReads l.allowed (lines_model l.lines.items) l.fn.lexer l.lexer

abbrev pub decreases-lines : goal.decreases-lines
decreases-lines l = lines_left l.lexer
