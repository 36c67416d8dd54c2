use Rattle.nj_build_log.proofs.LineLemmas.{one_line}
use Rattle.nj_build_log.proofs.build_log.BuildLog.read_with_keys.Goals as goal

pub lines-preserved : goal.lines-preserved
lines-preserved c =
    one_line c.lines.table c.add.new.self c.in-Some.line.now c.lines.rest.now c.in-Some.after.now
    c.in_ok-version.lines.now c.in-Some.ensures.0 c.in_ok-add.ensures.added c.lines.invariant
