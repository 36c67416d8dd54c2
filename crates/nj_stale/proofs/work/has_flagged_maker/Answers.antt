use Rattle.std.proofs.Common.{◌≡◌, ◌∙◌, option_map, sym, arith}
use Rattle.std.specs.Prelude.{Some, slice_get}
use Rattle.nj_edges.specs.declared.edges.EdgeNo.{EdgeNo}
use Rattle.nj_edges.specs.Needs.{makers_of_inputs}
use Rattle.nj_stale.proofs.WorkLemmas.{flagged_at, maker_count, maker_number}
use Rattle.nj_stale.proofs.WorkLemmas.{next_maker}
use Rattle.nj_stale.proofs.work.has_flagged_maker.Goals as goal

pub returns-then-has_flag : goal.returns-then-has_flag
returns-then-has_flag c =
    let edges = c.args.graph.now.edges in
    let makers = makers_of_inputs edges c.args.edge.0 in
    let counted = maker_count edges c.args.graph.now.files c.inputs-index-end.result.now c.args.edge.0
    c.inputs-index-end.ensures.files in
    let maker = option_map (λ (edge : EdgeNo). edge.0) c.unwrap_or.result in
    let at : slice_get makers c.inputs.index ≡ Some maker =
    maker_number makers c.inputs.index c.maker_at.result c.unwrap_or.result
    (omega (arith, counted, c.inputs-test.true)) c.maker_at.ensures.maker c.unwrap_or.ensures in
    sym (flagged_at c.args.flags.now makers c.inputs.index maker at
    (sym c.has_flag.ensures ∙ c.if-has_flag.true))

pub inputs-preserved : goal.inputs-preserved
inputs-preserved c =
    let edges = c.args.graph.now.edges in
    let makers = makers_of_inputs edges c.args.edge.0 in
    let counted = maker_count edges c.args.graph.now.files c.inputs-index-end.result.now c.args.edge.0
    c.inputs-index-end.ensures.files in
    let maker = option_map (λ (edge : EdgeNo). edge.0) c.unwrap_or.result in
    let at : slice_get makers c.inputs.index ≡ Some maker =
    maker_number makers c.inputs.index c.maker_at.result c.unwrap_or.result
    (omega (arith, counted, c.inputs-test.true)) c.maker_at.ensures.maker c.unwrap_or.ensures in
    next_maker c.args.flags.now makers c.inputs.index maker at
    (sym c.has_flag.ensures ∙ c.if-has_flag.false) ∙ c.inputs.invariant
