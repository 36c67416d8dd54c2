use Rattle.std.proofs.Common.{◌+◌, ◌∙◌, ap, drop, max, option_map}
use Rattle.nj_edges.specs.declared.edges.EdgeNo.{EdgeNo}
use Rattle.nj_edges.specs.Needs.{makers_of_inputs}
use Rattle.nj_times.specs.Inside.CostsHeld.{greatest}
use Rattle.nj_times.proofs.CostLemmas.{maker_number, next_greatest}
use Rattle.nj_times.proofs.costs.greatest_before.Goals as goal

pub inputs-preserved : goal.inputs-preserved
inputs-preserved c =
    let edges = c.args.graph.now.edges in
    let makers = makers_of_inputs edges c.args.edge.0 in
    let maker = option_map (λ (edge : EdgeNo). edge.0) c.unwrap_or-maker.result in
    let at = maker_number edges c.args.graph.now.files c.inputs-index-end.result.now c.args.edge.0
    c.inputs.index
    c.maker_at.result c.unwrap_or-maker.result c.inputs-index-end.ensures.files c.inputs-test.true
    c.maker_at.ensures.maker c.unwrap_or-maker.ensures in
    ap (λ m. max m (greatest c.args.costs.now (drop (c.inputs.index + 1) makers)))
    (c.max-greatest.ensures ∙ ap (λ m. max m c.inputs.greatest) c.cost_of.ensures)
    ∙ next_greatest c.args.costs.now makers c.inputs.index maker c.inputs.greatest at ∙ c.inputs.invariant
