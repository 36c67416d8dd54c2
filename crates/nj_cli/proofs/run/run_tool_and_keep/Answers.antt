use Rattle.std.proofs.Common.{Bool, sym, subst}
use Rattle.nj_graph.specs.Graph.{IsGraphOf}
use Rattle.nj_requests.specs.Actions.{request_model}
use Rattle.nj_cli.specs.Inside.RunSteps.{Concludes}
use Rattle.nj_cli.specs.Runs.{around}
use Rattle.nj_cli.proofs.RunLemmas.{Answers-from, Keeps-answered}
use Rattle.nj_cli.proofs.run.run_tool_and_keep.Goals as goal

pub returns : goal.returns
returns g c =
    let request = request_model c.args.request.now in
    let before = g.S.FileSource.state c.args.source.now in
    let after = g.S.FileSource.state c.read_graph.new.source in
    let old = around before (g.O.Sink.state c.args.out.now) (g.E.Sink.state c.args.err.now) in
    let new = around after (g.O.Sink.state c.perform-outcome.new.out)
    (g.E.Sink.state c.conclude-status.new.err) in
    let reads = c.in-Ok.ensures in
    let entries = reads.2.0 in
    let is_graph = reads.2.2 in
    let concludes = subst (λ (b : Bool). Concludes b old.error new.error c.perform-outcome.result
    c.conclude-status.result) c.follows_validations.ensures c.conclude-status.ensures in
    let outcomes = c.perform-outcome.ensures entries
    (subst (λ h. IsGraphOf h entries) (sym c.graph.ensures) is_graph) in
    Keeps-answered request reads.0 old new c.in-Ok.loaded entries c.conclude-status.result reads.1 reads.2.1
    is_graph reads.2.3
    (Answers-from entries request.action old new c.conclude-status.result c.perform-outcome.result outcomes
    concludes)
