use Rattle.std.proofs.Common.{sym}
use Rattle.nj_edges.proofs.UserLemmas.{no-users}
use Rattle.nj_edges.proofs.users.users_if_any.Goals as goal

pub returns-then-is_empty : goal.returns-then-is_empty
returns-then-is_empty c = no-users c.args.files.now c.args.row_part c.args.rows.now
    (sym c.if-is_empty.ensures)
