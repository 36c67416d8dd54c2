use Rattle.std.proofs.Common.{◌∙◌, ap}
use Rattle.nj_edges.specs.EdgeTables.{EdgeTable}
use Rattle.nj_edges.proofs.JoinedLemmas.{part-numbers, pushed}
use Rattle.nj_edges.proofs.joined_edges.JoinedEdges.push_edge.Goals as goal

pub add_outputs-requires-2 : goal.add_outputs-requires-2
add_outputs-requires-2 c =
    let same = ap (λ (t : EdgeTable). t.files) c.in_ok-add_outputs.ensures ∙ c.requires.files in
    rw c.part.ensures (part-numbers _ c.args.edges.now.files same _ _ c.open_output_files-outputs.ensures
    c.args.added.outputs)

pub add_inputs-requires-2 : goal.add_inputs-requires-2
add_inputs-requires-2 c =
    let files = λ (t : EdgeTable). t.files in
    let same = ap files c.in_ok-add_inputs.ensures ∙ ap files c.in_ok-add_outputs-2.ensures
    ∙ ap files c.in_ok-add_outputs.ensures ∙ c.requires.files in
    rw c.part-new_inputs.ensures (part-numbers _ c.args.edges.now.files same _ _
    c.open_input_files-inputs.ensures c.args.added.inputs)

pub returns : goal.returns
returns c =
    let is2 = rw c.part.ensures at c.in_ok-add_outputs-2.ensures in
    let is3 = rw c.first-needed.ensures at c.in_ok-add_inputs.ensures in
    let is4 = rw c.part-new_inputs.ensures at c.in_ok-add_inputs-2.ensures in
    let is5 = rw c.after.ensures at c.in_ok-add_inputs-3.ensures in
    let is7 = rw (c.first-needed.ensures, c.part-new_inputs.ensures) at c.end_edge.ensures in
    pushed _ _ _ _ _ _ _ c.edge_files-stated.ensures c.args.edges.now.«open» _ _
    c.open_output_files-outputs.ensures c.open_input_files-inputs.ensures c.args.added
    _ _ _ _ _ _ _ c.requires.files c.requires.closed c.in_ok-add_outputs.ensures is2 is3 is4 is5
    c.in_ok-add_validations.ensures _ c.end_edge.result is7
