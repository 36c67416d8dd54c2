use Rattle.std.proofs.Common.{rules, w32}
use mir.Val.{SFits}
use Rattle.nj_c.proofs.OneAnswerLemmas.{passed}
use Rattle.nj_c.proofs.OneAnswerSessions.{opens-agree}
use Rattle.nj_c.specs.OneAnswer.{Equal, SameChange}
use Rattle.nj_c.proofs.one_answer.sessions.open_twice.Goals as goal

pub returns : goal.returns
returns c =
    let fits : SFits w32 c.nx_open.result = search rules in
    let fits2 : SFits w32 c.nx_open-2.result = search rules in
    passed (λ r s. SameChange Equal Equal r s c.nx_open.new.session.kept c.nx_open-2.new.session.kept) fits
    fits2 (opens-agree c.args.one.now.kept c.args.other.now.kept c.nx_open.new.session.kept
    c.nx_open-2.new.session.kept c.nx_open.result c.nx_open-2.result c.nx_open.ensures c.nx_open-2.ensures)
