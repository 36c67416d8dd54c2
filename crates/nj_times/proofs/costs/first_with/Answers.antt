use Rattle.std.proofs.Common.{◌∙◌, option_map, sym}
use Rattle.nj_edges.specs.declared.edges.EdgeNo.{EdgeNo}
use Rattle.nj_edges.specs.Needs.{makers_of_inputs}
use Rattle.nj_times.proofs.CostLemmas.{here_with, maker_number, next_with}
use Rattle.nj_times.proofs.costs.first_with.Goals as goal

pub returns-then-cost_of-wanted : goal.returns-then-cost_of-wanted
returns-then-cost_of-wanted c =
    let edges = c.args.graph.now.edges in
    let maker = option_map (λ (edge : EdgeNo). edge.0) c.unwrap_or-maker.result in
    let at = maker_number edges c.args.graph.now.files c.inputs-index-end.result.now c.args.edge.0
    c.inputs.index
    c.maker_at.result c.unwrap_or-maker.result c.inputs-index-end.ensures.files c.inputs-test.true
    c.maker_at.ensures.maker c.unwrap_or-maker.ensures in
    here_with c.args.costs.now c.args.wanted (makers_of_inputs edges c.args.edge.0) c.inputs.index maker at
    (sym c.cost_of.ensures ∙ c.if-cost_of-wanted.true) ∙ c.inputs.invariant

pub inputs-preserved : goal.inputs-preserved
inputs-preserved c =
    let edges = c.args.graph.now.edges in
    let maker = option_map (λ (edge : EdgeNo). edge.0) c.unwrap_or-maker.result in
    let at = maker_number edges c.args.graph.now.files c.inputs-index-end.result.now c.args.edge.0
    c.inputs.index
    c.maker_at.result c.unwrap_or-maker.result c.inputs-index-end.ensures.files c.inputs-test.true
    c.maker_at.ensures.maker c.unwrap_or-maker.ensures in
    next_with c.args.costs.now c.args.wanted (makers_of_inputs edges c.args.edge.0) c.inputs.index maker at
    (λ is. c.if-cost_of-wanted.false (c.cost_of.ensures ∙ is)) ∙ c.inputs.invariant
