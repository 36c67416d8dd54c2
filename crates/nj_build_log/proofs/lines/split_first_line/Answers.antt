use Rattle.std.proofs.Common.{sym}
use Rattle.nj_build_log.proofs.LineLemmas.{whole_line}
use Rattle.nj_build_log.proofs.lines.split_first_line.Goals as goal

pub returns-in-None-clause-line : goal.returns-in-None-clause-line
returns-in-None-clause-line c = (whole_line c.args.text.now (sym c.in-None.ensures)).0

pub returns-in-None-clause-after : goal.returns-in-None-clause-after
returns-in-None-clause-after c = sym (whole_line c.args.text.now (sym c.in-None.ensures)).1
