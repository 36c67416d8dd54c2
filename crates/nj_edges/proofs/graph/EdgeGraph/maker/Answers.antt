use Rattle.std.proofs.Common.{◌∙◌, sym}
use Rattle.nj_edges.proofs.GraphLemmas.{maker-at, maker-edge}
use Rattle.nj_edges.proofs.graph.EdgeGraph.maker.Goals as goal

pub returns-in-Some-clause-maker : goal.returns-in-Some-clause-maker
returns-in-Some-clause-maker c =
    sym c.in-Some.is ∙ c.maker.ensures.maker
    ∙ maker-at _ _ c.self.invariant.table.edges_are c.self.invariant.closed c.args.self.now c.self.view_is
    c.args.file
    c.requires

pub returns-in-Some-clause-known : goal.returns-in-Some-clause-known
returns-in-Some-clause-known c =
    maker-edge _ _ c.self.invariant.table.edges_are c.self.invariant.closed c.args.self.now c.self.view_is
    c.args.file.0
    c.in-Some.edge (sym c.maker.ensures.maker ∙ c.in-Some.is)

pub returns-in-None-clause-maker : goal.returns-in-None-clause-maker
returns-in-None-clause-maker c =
    sym c.in-None.is ∙ c.maker.ensures.maker
    ∙ maker-at _ _ c.self.invariant.table.edges_are c.self.invariant.closed c.args.self.now c.self.view_is
    c.args.file
    c.requires
