use Rattle.std.proofs.Common.{Ok, subst}
use Rattle.nj_graph.specs.Loads.{Loads}
use Rattle.nj_requests.specs.Actions.{request_model}
use Rattle.nj_cli.proofs.JoinedRuns.{ReadsGraph-joined}
use Rattle.nj_cli.proofs.run.read_graph.Goals as goal

pub returns-then-request : goal.returns-then-request
returns-then-request g c =
    let request = request_model c.args.request.now in
    let before = g.S.FileSource.state c.args.source.now in
    let between = g.S.FileSource.state c.load.new.source in
    let after = g.S.FileSource.state c.join_dyndeps.new.source in
    let loaded = c.in_ok-loaded.loaded in
    let loads = subst (λ main. Loads main before between (Ok loaded)) c.deref.ensures
    c.in_ok-loaded.ensures.loads in
    ReadsGraph-joined request c.if-request.true before between after loads.0 loaded c.join_dyndeps.result
    loads.1 loads.2
    (c.join_dyndeps.ensures.joins loads.2.entries loads.2.graph_is)
