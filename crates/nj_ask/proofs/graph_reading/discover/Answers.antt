use Rattle.std.proofs.Common.{◌≡◌, ap, ◌∙◌, string_bytes}
use Rattle.nj_audit.specs.LoggedInputs.{inputs_in}
use Rattle.nj_graph.specs.Graph.{GraphModel}
use Rattle.nj_ask.specs.declared.status.Status.TheVariants.{Fault}
use Rattle.nj_ask.specs.KnownGraphs.{discovered_line}
use Rattle.nj_ask.specs.Inside.GraphSteps.{LacksDiscovered}
use Rattle.nj_ask.proofs.FailureLemmas.{fails-as, memory-fails}
use Rattle.nj_ask.proofs.GraphLemmas.{inputs-kept}
use Rattle.nj_ask.proofs.graph_reading.discover.Goals as goal

pub returns-in_ok-with_doubts-in-Ok-clause-joins : goal.returns-in_ok-with_doubts-in-Ok-clause-joins
returns-in_ok-with_doubts-in-Ok-clause-joins g c = λ stated is. record {
  found = c.in-Ok.discovered;
  joins = c.in-Ok.ensures.joins stated is;
  is_found = c.in_ok-with_doubts-in-Ok.ensures.is;
}

pub returns-in_ok-with_doubts-in-Ok-clause-undeclared : goal.returns-in_ok-with_doubts-in-Ok-clause-undeclared
returns-in_ok-with_doubts-in-Ok-clause-undeclared g c =
    ap (λ inputs. inputs_in c.in_ok-with_doubts-in-Ok.field-0.graph inputs.items)
    c.in_ok-with_doubts-in-Ok.ensures.undeclared
    ∙ ap (λ (h : GraphModel). inputs_in h c.args.undeclared.items)
    c.in_ok-with_doubts-in-Ok.ensures.is.graph_is
    ∙ inputs-kept c.args.graph c.in-Ok.discovered.graph c.in-Ok.ensures.follows c.args.undeclared.items
    c.requires

pub returns-in_err-with_doubts-in-Ok-clause-lacks : goal.returns-in_err-with_doubts-in-Ok-clause-lacks
returns-in_err-with_doubts-in-Ok-clause-lacks g c = λ stated is.
    memory-fails Fault _ c.from_residual.result c.from_residual.ensures

pub returns-in-Err-clause-lacks : goal.returns-in-Err-clause-lacks
returns-in-Err-clause-lacks g c = λ stated is.
    let before = g.B.FileSource.state c.args.built.now in
    let after = g.B.FileSource.state c.with_discovered.new.files in
    let times = g.T.FileTimes.times c.args.times.now in
    fails-as Fault (λ line. line ≡ discovered_line c.deref.result.now c.in-Err.fault)
    (LacksDiscovered (string_bytes c.args.log.path) before after times c.args.log.log stated)
    c.of_discovered.result
    (λ line said. record {
      fault = c.in-Err.fault;
      line_is = said ∙ ap (λ path. discovered_line path c.in-Err.fault) c.deref.ensures;
      joins = c.in-Err.ensures.joins stated is;
    }) c.of_discovered.ensures
