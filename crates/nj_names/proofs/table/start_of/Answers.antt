use Rattle.std.proofs.Common.{◌<◌, arith}
use Rattle.nj_names.proofs.NameLemmas.{start-before}
use Rattle.nj_names.proofs.table.start_of.Goals as goal

pub returns-else-number-eq0 : goal.returns-else-number-eq0
returns-else-number-eq0 c =
    let other = c.if-number-eq0.false in
    let after : 0 < c.args.number = omega arith in
    rw c.number_at.ensures (start-before 0 c.args.ends.now c.args.number 0 after c.requires)
