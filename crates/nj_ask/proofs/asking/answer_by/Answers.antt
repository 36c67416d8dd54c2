use Rattle.std.proofs.Common.{subst}
use Rattle.nj_ask.specs.Asks.{TakesBuildLog}
use Rattle.nj_ask.specs.Inside.Asking.LeavesAnswer.{answers}
use Rattle.nj_ask.proofs.AskingLemmas.{leaves-lacking}
use Rattle.nj_ask.proofs.asking.answer_by.Goals as goal

pub returns-in-Ok : goal.returns-in-Ok
returns-in-Ok g c entries is subject asks =
    let before = g.B.FileSource.state c.args.built.now in
    let after = g.B.FileSource.state c.build_log_if.new.built in
    answers c.in-Ok.log
    (subst (λ takes. TakesBuildLog takes entries before after c.in-Ok.log)
    (c.takes_build_log-takes.ensures subject asks) (c.in-Ok.ensures.read entries is))
    (c.perform.ensures entries is subject asks)

pub returns-in-Err : goal.returns-in-Err
returns-in-Err g c entries is subject asks =
    leaves-lacking c.args.known.now entries (g.T.FileTimes.times c.args.times.now) c.args.folder.now subject
    _ c.args.input.now (g.B.FileSource.state c.args.built.now) (g.B.FileSource.state c.build_log_if.new.built)
    (g.O.Sink.state c.args.out.now) c.takes_build_log-takes.result c.in-Err.failure
    (c.takes_build_log-takes.ensures subject asks) (c.in-Err.ensures.lacks entries is)
