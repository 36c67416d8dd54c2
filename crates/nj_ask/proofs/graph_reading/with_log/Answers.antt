use Rattle.std.proofs.Common.{subst}
use Rattle.nj_ask.specs.declared.status.Status.TheVariants.{Fault}
use Rattle.nj_ask.specs.Inside.GraphSteps.{Discovers, KnowsByLog, LacksByLog, LacksDiscovered}
use Rattle.nj_ask.specs.Inside.GraphSteps.LacksByLog.{no_graph, no_log}
use Rattle.nj_ask.specs.KnownGraphs.{FindsUndeclared, undeclared_in}
use Rattle.nj_ask.specs.LogsRead.{LacksLog}
use Rattle.nj_ask.specs.Inside.Failures.{FailsBy}
use Rattle.nj_ask.proofs.FailureLemmas.{err-as, fails-as, ok-both}
use Rattle.nj_ask.proofs.graph_reading.with_log.Goals as goal

pub returns-in-Ok-clause-known : goal.returns-in-Ok-clause-known
returns-in-Ok-clause-known g c = λ stated is.
    let log = c.in-Ok.log in
    let times = g.T.FileTimes.times c.args.times.now in
    let between = g.B.FileSource.state c.read_log.new.built in
    let after = g.B.FileSource.state c.with_log_read.new.built in
    ok-both (Discovers between after times log.log log.caveat.items stated)
    (λ known. FindsUndeclared c.args.seeks_undeclared log.log stated (undeclared_in known))
    (KnowsByLog _ c.args.seeks_undeclared (g.B.FileSource.state c.args.built.now) after times stated)
    c.with_log_read.result
    (λ known discovers finds. record {
      between = between;
      log = log.log;
      caveat = log.caveat.items;
      reads = c.in-Ok.ensures.read stated is;
      discovers = discovers;
      finds = finds;
    })
    (c.with_log_read.ensures.joins stated is) (c.with_log_read.ensures.undeclared stated is)

pub returns-in-Ok-clause-lacks : goal.returns-in-Ok-clause-lacks
returns-in-Ok-clause-lacks g c = λ stated is.
    let log = c.in-Ok.log in
    let times = g.T.FileTimes.times c.args.times.now in
    let before = g.B.FileSource.state c.args.built.now in
    let between = g.B.FileSource.state c.read_log.new.built in
    let after = g.B.FileSource.state c.with_log_read.new.built in
    err-as (FailsBy Fault (λ line. LacksDiscovered _ between after times log.log stated line))
    (FailsBy Fault (LacksByLog _ before after times stated)) c.with_log_read.result
    (λ failure fails. fails-as Fault (λ line. LacksDiscovered _ between after times log.log stated line)
    (LacksByLog _ before after times stated) failure
    (λ line lacks. no_graph (c.in-Ok.ensures.read stated is)
    (subst (λ path. LacksDiscovered path between after times log.log stated line)
    (c.in-Ok.ensures.path stated is)
    lacks)) fails)
    (c.with_log_read.ensures.lacks stated is)

pub returns-in-Err-clause-lacks : goal.returns-in-Err-clause-lacks
returns-in-Err-clause-lacks g c = λ stated is.
    let before = g.B.FileSource.state c.args.built.now in
    let after = g.B.FileSource.state c.read_log.new.built in
    fails-as Fault (LacksLog _ stated before after)
    (LacksByLog _ before after (g.T.FileTimes.times c.args.times.now) stated) c.in-Err.failure
    (λ line lacks. no_log lacks) (c.in-Err.ensures.lacks stated is)
