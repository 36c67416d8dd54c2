use Rattle.std.proofs.Common.{◌≡◌, ◌+◌, Bool, true, arith, length, sym, ap, subst, ◌∙◌}
use Rattle.std.specs.Prelude.{not}
use Rattle.std.specs.List.{filter}
use Rattle.nj_graph.specs.Handles.{GraphFile, edge_of, file_of}
use Rattle.nj_ask.specs.DrawnNodes.{has_node, input_files, node_of}
use Rattle.nj_ask.proofs.DrawnLemmas.{one-more}
use Rattle.nj_ask.proofs.node_lines.left_out.Goals as goal

pub overflow_add-count : goal.overflow_add-count
overflow_add-count c =
    let all = input_files (edge_of c.args.edge) in
    let left : GraphFile → Bool = λ file. not (has_node c.args.nodes.now (node_of c.args.folds file)) in
    let is : left (file_of c.in-Some.input) ≡ true =
    ap (λ node. not (has_node c.args.nodes.now node)) (sym c.node_of.ensures)
    ∙ ap not (sym c.has.ensures ∙ c.if-not-has.true) in
    let more = one-more left (file_of c.in-Some.input) c.next.new.self all c.inputs.count is
    (subst (λ files. c.inputs.count + length (filter left files) ≡ length (filter left all))
    c.in-Some.ensures.steps c.inputs.invariant) in
    let most = c.len-most.ensures ∙ ap length c.inputs-inputs.ensures in
    let fits = c.len-most.type_inv in
    omega (arith, more, most, fits)
