use Rattle.std.proofs.Common.{arith}
use Rattle.nj_ask.proofs.deps_log.builddir.Goals as goal

pub returns-then-count-eq0 : goal.returns-then-count-eq0
returns-then-count-eq0 c entries graph =
    let some = c.scope_count-count.ensures.stated entries graph in
    let none = c.if-count-eq0.true in
    absurd (omega (arith, some, none))
