use Rattle.std.proofs.Common.{inl, inr, refl, rules}
use Rattle.nj_c.proofs.sessions.nx_open.Goals as goal

pub returns-in-Ok : goal.returns-in-Ok
returns-in-Ok c = inl (c.in-Ok.seal.kept, search rules, c.put.ensures, c.in-Ok.ensures)

pub returns-in-Err : goal.returns-in-Err
returns-in-Err c = inr (search rules, refl)
