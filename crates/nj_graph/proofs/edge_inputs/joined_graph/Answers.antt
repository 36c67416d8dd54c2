use Rattle.std.proofs.Common.{◌∙◌, ap}
use Rattle.nj_scope.proofs.DeclarationLemmas.{if_ok}
use Rattle.nj_graph.specs.Inside.InputSteps.{joined_edges}
use Rattle.nj_graph.proofs.InputGraphs.{finishes}
use Rattle.nj_graph.proofs.InputLemmas.{joined-graph}
use Rattle.nj_graph.proofs.edge_inputs.joined_graph.Goals as goal

pub finish-requires : goal.finish-requires
finish-requires g c =
    let inputs = g.N.EdgeInputs.inputs c.args.named.now in
    (joined-graph inputs c.args.graph c.join.new.joining
    (c.in_ok-join.ensures ∙ ap (joined_edges inputs) c.in_ok-joining.ensures) c.requires).1

pub returns : goal.returns
returns g c =
    let inputs = g.N.EdgeInputs.inputs c.args.named.now in
    if_ok c.finish.result c.finish.ensures (λ finished done.
    finishes inputs c.args.graph c.join.new.joining finished
    (c.in_ok-join.ensures ∙ ap (joined_edges inputs) c.in_ok-joining.ensures) c.requires done)
