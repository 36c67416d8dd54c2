use Rattle.std.proofs.Common.{◌≡◌, Err, sym, subst}
use Rattle.std.specs.Prelude.{IfOk}
use Rattle.nj_manifest.proofs.Handed.{handed-as}
use Rattle.nj_faults.specs.Faults.{no_memory}
use Rattle.nj_ask.specs.Cited.{AreDiscovered, AreFindingsOf, IsGraphOf}
use Rattle.nj_ask.specs.DiscoveredGraphs.{JoinsDiscovered}
use Rattle.nj_ask.specs.DiscoveredGraphs.JoinsDiscovered.{out_of_memory}
use Rattle.nj_ask.proofs.discovered.with_discovered.Goals as goal

pub returns-in_err-graph-clause-joins : goal.returns-in_err-graph-clause-joins
returns-in_err-graph-clause-joins g c = λ stated is.
    let fault = handed-as (λ e. e ≡ no_memory) c.from_residual.result c.from_residual.ensures in
    let before = g.S.FileSource.state c.args.files.now in
    let after = g.S.FileSource.state c.findings_of-findings.new.files in
    let times = g.T.FileTimes.times c.args.times.now in
    rw fault.1 (subst (λ e. JoinsDiscovered before after times c.args.log.now stated (Err e)) (sym fault.2)
    out_of_memory)

pub with_findings-requires : goal.with_findings-requires
with_findings-requires g c =
    let kept = c.in_ok-graph.ensures.kept in
    subst (λ graph. AreFindingsOf graph c.in_ok-graph.findings) (sym kept.0)
    (subst (λ found. IfOk found (AreFindingsOf c.args.graph)) kept.1 c.findings_of-findings.ensures.of)

pub returns-clause-joins : goal.returns-clause-joins
returns-clause-joins g c = λ stated is.
    let kept = c.in_ok-graph.ensures.kept in
    let before = g.S.FileSource.state c.args.files.now in
    let after = g.S.FileSource.state c.findings_of-findings.new.files in
    let times = g.T.FileTimes.times c.args.times.now in
    c.with_findings.ensures.joins _ _ _ _ stated
    (subst (λ graph. IsGraphOf graph stated) (sym kept.0) is)
    (subst (λ found. IfOk found (λ findings. AreDiscovered before after times c.args.log.now stated
    findings.found)) kept.1 (c.findings_of-findings.ensures.found stated is))
