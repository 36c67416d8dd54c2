use Rattle.std.proofs.Common.{refl}
use Rattle.nj_c.proofs.sessions.add_text.Goals as goal

pub returns-in-Err : goal.returns-in-Err
returns-in-Err c = (c.args.seal.kept.files, refl, refl)
