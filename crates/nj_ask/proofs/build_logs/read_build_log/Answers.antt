use Rattle.std.proofs.Common.{◌≡◌, true≢false, refl, sym, ap, subst, ◌∙◌, codes}
use Rattle.std.specs.Str.{IsUtf8}
use Rattle.nj_ask.specs.declared.status.Status.TheVariants.{Fault}
use Rattle.nj_ask.specs.BuildLogs.{LacksBuildLog}
use Rattle.nj_ask.specs.BuildLogs.LacksBuildLog.{no_path}
use Rattle.nj_ask.specs.Endings.{program_line}
use Rattle.nj_ask.specs.Inside.BuildLogSteps.{LacksBuildLogAt}
use Rattle.nj_ask.specs.Inside.Failures.{FailsBy}
use Rattle.nj_ask.proofs.BuildLogLemmas.{fails-lines}
use Rattle.nj_ask.proofs.FailureLemmas.{err-as, fails-as}
use Rattle.nj_ask.proofs.build_logs.read_build_log.Goals as goal

pub returns-in-Ok-clause-lacks : goal.returns-in-Ok-clause-lacks
returns-in-Ok-clause-lacks g c = λ entries is.
    let before = g.S.FileSource.state c.args.built.now in
    let after = g.S.FileSource.state c.build_log_at.new.built in
    let path = c.deref.result.now in
    err-as (FailsBy Fault (LacksBuildLogAt path before after))
    (FailsBy Fault (LacksBuildLog entries before after))
    c.build_log_at.result
    (λ failure. fails-lines entries before after failure path
    (c.deref.ensures ∙ ap (λ v. v.items) c.in-Ok.ensures.ok ∙ c.in_ok-build_log_path.ensures entries is))
    c.build_log_at.ensures.lacks

pub returns-clause-lacks : goal.returns-clause-lacks
returns-clause-lacks g c = λ entries is.
    let state = g.S.FileSource.state c.args.built.now in
    let path_is = c.in_ok-build_log_path.ensures entries is in
    fails-as Fault (λ line. line ≡ program_line (codes "the path of the build log is not UTF-8"))
    (LacksBuildLog entries state state) c.not_text.result
    (λ line said. subst (λ l. LacksBuildLog entries state state l) (sym said)
    (no_path (λ good. true≢false (sym (c.in-Err.ensures.succeeds (subst IsUtf8 (sym path_is) good)))) refl))
    c.not_text.ensures
