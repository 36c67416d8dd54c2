use Rattle.std.proofs.Common.{subst}
use Rattle.nj_graph.specs.Inside.UndeclaredFound.{MadeIs}
use Rattle.nj_graph.proofs.FoundLemmas.{finds-declared, not-made}
use Rattle.nj_graph.proofs.found_inputs.FoundInputs.add_input.Goals as goal

pub returns-in-Some-clause-added : goal.returns-in-Some-clause-added
returns-in-Some-clause-added c = λ before paths path made finds.
    c.add_made.ensures.added before paths path (subst (MadeIs c.args.graph.now path) c.in-Some.is made) finds

pub returns-in-None-clause-added : goal.returns-in-None-clause-added
returns-in-None-clause-added c = λ before paths path made finds.
    let g = c.args.graph.now in
    finds-declared g c.args.edge.0 before paths path c.args.self.now finds
    (not-made g.edges (record { edge = c.args.edge.0; path = path })
    (subst (MadeIs g path) c.in-None.is made))
