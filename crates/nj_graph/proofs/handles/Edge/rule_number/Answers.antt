use Rattle.std.proofs.Common.{◌<◌, length, ap, sym, subst, ◌∙◌}
use Rattle.nj_statements.specs.Built.{detail_at}
use Rattle.nj_graph.specs.Graph.{GraphModel, edges_of}
use Rattle.nj_graph.specs.Inside.GraphHeld.{IsKnown}
use Rattle.nj_graph.proofs.EdgeStrings.{known-at}
use Rattle.nj_graph.proofs.handles.Edge.rule_number.Goals as goal

pub returns-clause-there : goal.returns-clause-there
returns-clause-there c =
    let g = c.graph.inside in
    let below : c.args.self.number.0 < length g.built.details =
    subst (λ n. c.args.self.number.0 < n) (sym c.graph.invariant.count)
    (subst (λ x. c.args.self.number.0 < length (edges_of x)) (sym c.graph.view_is) c.args.self.known) in
    let known = known-at (IsKnown g.declared.declarations) g.built.details c.args.self.number.0 _ below
    c.graph.invariant.known in
    subst (λ (x : GraphModel). c.rule.result.0 < length x.declarations.rules) c.graph.view_is
    (subst (λ n. n < length g.declared.declarations.rules) (sym c.rule.ensures) known.1)

pub returns-clause-stated : goal.returns-clause-stated
returns-clause-stated c = λ entries is.
    c.rule.ensures ∙ ap (λ (x : GraphModel). (detail_at x.built.details c.args.self.number.0).rule)
    c.graph.view_is
    ∙ ap (λ ds. (detail_at ds c.args.self.number.0).rule) is.built.details
