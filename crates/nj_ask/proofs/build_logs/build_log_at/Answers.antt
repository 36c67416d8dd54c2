use Rattle.std.proofs.Common.{◌≡◌, Some, Err, ap, subst}
use Rattle.nj_build_log.specs.Logs.{build_log_of}
use Rattle.nj_scope.specs.Sources.{outcome_bytes}
use Rattle.nj_ask.specs.declared.status.Status.TheVariants.{Fault}
use Rattle.nj_ask.specs.LogsRead.{ReadsBytes}
use Rattle.nj_ask.specs.Inside.BuildLogSteps.{IsNoBuildLog, LacksBuildLogAt}
use Rattle.nj_ask.specs.Inside.BuildLogSteps.LacksBuildLogAt.{no_log}
use Rattle.nj_ask.specs.Inside.Failures.{FailsBy}
use Rattle.nj_ask.proofs.FailureLemmas.{err-as, fails-as}
use Rattle.nj_ask.proofs.build_logs.build_log_at.Goals as goal

pub returns-in-Some-clause-lacks : goal.returns-in-Some-clause-lacks
returns-in-Some-clause-lacks g c =
    let path = c.args.path.now in
    let before = g.S.FileSource.state c.args.built.now in
    let after = g.S.FileSource.state c.bytes_at.new.built in
    let bytes = c.deref.result.now in
    err-as (FailsBy Fault (IsNoBuildLog path bytes)) (FailsBy Fault (LacksBuildLogAt path before after))
    c.build_log_in.result
    (λ failure. fails-as Fault (IsNoBuildLog path bytes) (LacksBuildLogAt path before after) failure
    (λ line lacking. no_log {bytes = Some c.in-Some.bytes.items} {fault = lacking.fault}
    (subst (ReadsBytes before after path) (ap outcome_bytes c.in-Some.is) c.in-Ok.ensures.read)
    (subst (λ b. build_log_of b ≡ Err lacking.fault) c.deref.ensures.value lacking.is_fault)
    lacking.line_is))
    c.build_log_in.ensures.fault
