use Rattle.std.proofs.Common.{Some, slice_get, ap, sym, ◌∙◌}
use Rattle.nj_edges.proofs.GraphLemmas.{graph-makers, inputs-below, maker-below, rows-end, rows-rise}
use Rattle.nj_edges.proofs.graph.EdgeGraph.maker_at.Goals as goal

pub invariant_of-held : goal.invariant_of-held
invariant_of-held c =
    let held = c.self.invariant.table.edges_are in
    let closed = c.self.invariant.closed in
    record {
      rows_rise = rows-rise _ _ held closed;
      rows_within = rows-end _ _ held closed;
      files_known = inputs-below _ _ held closed;
      makers_known = maker-below _ _ held closed;
    }

pub returns-in_err-maker-clause-maker : goal.returns-in_err-maker-clause-maker
returns-in_err-maker-clause-maker c =
    let row = graph-makers _ _ c.self.invariant.table.edges_are c.self.invariant.closed c.args.self.now
    c.self.view_is in
    rw c.from_residual.ensures (sym c.in_err-maker.was ∙ c.maker_at.ensures.maker
    ∙ ap (λ ms. slice_get (ms c.args.edge.0) c.args.index) row)

pub returns-in-Some-clause-maker : goal.returns-in-Some-clause-maker
returns-in-Some-clause-maker c =
    let row = graph-makers _ _ c.self.invariant.table.edges_are c.self.invariant.closed c.args.self.now
    c.self.view_is in
    ap Some (sym c.in-Some.is) ∙ sym c.in_ok-maker.was ∙ c.maker_at.ensures.maker
    ∙ ap (λ ms. slice_get (ms c.args.edge.0) c.args.index) row

pub returns-in-None-clause-maker : goal.returns-in-None-clause-maker
returns-in-None-clause-maker c =
    let row = graph-makers _ _ c.self.invariant.table.edges_are c.self.invariant.closed c.args.self.now
    c.self.view_is in
    ap Some (sym c.in-None.is) ∙ sym c.in_ok-maker.was ∙ c.maker_at.ensures.maker
    ∙ ap (λ ms. slice_get (ms c.args.edge.0) c.args.index) row
