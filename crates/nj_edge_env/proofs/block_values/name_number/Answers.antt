use Rattle.std.proofs.Common.{inl, refl}
use Rattle.nj_edge_env.proofs.block_values.name_number.Goals as goal

pub returns-then-is_name-clause-number : goal.returns-then-is_name-clause-number
returns-then-is_name-clause-number c = record {
  at = c.is_name.ensures c.if-is_name.true;
  grows = inl (refl, refl);
}
