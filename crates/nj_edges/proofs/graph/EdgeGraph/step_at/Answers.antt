use Rattle.std.proofs.Common.{◌-◌, Some, length, rules, ap, sym, ◌∙◌}
use Rattle.std.proofs.lemmas.Option.{slice_get-get_or}
use Rattle.nj_edges.specs.Chains.{inputs_of_kinds}
use Rattle.nj_edges.specs.Edges.{edge_at}
use Rattle.nj_edges.proofs.ChainLemmas.{input-step, validation-step}
use Rattle.nj_edges.proofs.GraphLemmas.{files-known}
use Rattle.nj_edges.proofs.graph.EdgeGraph.step_at.Goals as goal

pub returns-then-index-inputs : goal.returns-then-index-inputs
returns-then-index-inputs c =
    let files = c.inputs_of_kinds-inputs.ensures.files in
    let known = files-known c.args.self.now.files c.inputs_of_kinds-inputs.result.now
    (inputs_of_kinds c.args.kinds (edge_at c.args.self.now.edges c.args.edge.0)) files in
    input-step c.args.self.now c.inputs_of_kinds-inputs.ensures.each_path_once c.args.kinds c.args.edge
    c.args.index c.inputs_of_kinds-inputs.result.now files (record { 0 = 0 }) c.input_kind.result known
    c.if-index-inputs.true (search rules) c.input_kind.ensures

pub returns : goal.returns
returns c =
    let files = c.inputs_of_kinds-inputs.ensures.files in
    let inputs = c.inputs_of_kinds-inputs.result.now in
    validation-step c.args.self.now c.inputs_of_kinds-inputs.ensures.each_path_once c.args.kinds c.args.edge
    c.args.index inputs files c.validations.result.now c.in_ok-file.field-0.now c.validations.ensures.files
    c.validations.ensures.known c.if-not-kinds.false c.if-index-inputs.false
    (slice_get-get_or c.validations.result.now (c.args.index - length inputs) c.in_ok-file.field-0.now
    c.in_ok-file.ensures.lookup.3.0
    ∙ ap Some (sym (c.in_ok-file.ensures.lookup.3.1 c.in_ok-file.field-0.now))) (search rules)
