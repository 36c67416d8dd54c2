use Rattle.std.proofs.Common.{inl}
use Rattle.nj_c.proofs.loads.finish_load.Goals as goal

pub returns-in-Ok : goal.returns-in-Ok
returns-in-Ok c = inl (
  c.in-Ok.wanted,
  c.lacks_memory.ensures c.if-lacks_memory.false,
  c.in-Ok.ensures.wanted,
  c.in-Ok.ensures.found,
  c.keep_load.ensures,
)
