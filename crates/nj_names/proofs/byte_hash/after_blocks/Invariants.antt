use Rattle.std.proofs.Common.{◌≡◌, take}
use Rattle.nj_names.specs.ByteHash.{after_blocks}
use Rattle.nj_names.proofs.byte_hash.after_blocks.Given as goal

abbrev pub invariant-steps : goal.invariant-steps
invariant-steps l = l.state ≡ after_blocks l.factor l.start (take l.block-index l.blocks)
