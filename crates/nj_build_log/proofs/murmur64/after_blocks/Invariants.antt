use Rattle.std.proofs.Common.{◌≡◌}
use Rattle.nj_build_log.specs.Murmur.{with_blocks}
use Rattle.nj_build_log.proofs.murmur64.after_blocks.Given as goal

abbrev pub invariant-turns : goal.invariant-turns
invariant-turns l = l.hash ≡ with_blocks l.text l.block
