use Rattle.std.proofs.Common.{◌≡◌, ◌++◌, List}
use Rattle.nj_graph.specs.Handles.{edge_of}
use Rattle.nj_ask.specs.Drawings.{End, arrows_from, drawn_ends, ends}
use Rattle.nj_ask.proofs.arrows.push_inputs_of.Given as goal

abbrev pub invariant-inputs : goal.invariant-inputs
invariant-inputs l =
    let drawing = l.drawing in
    let edge = edge_of l.edge in
    (rest : List End)
    → l.text.items
    ++ arrows_from edge (drawn_ends drawing.nodes.now l.linked
    (ends drawing.folds l.style l.input-iterator ++ rest))
    ≡ l.fn.text.items
    ++ arrows_from edge (drawn_ends drawing.nodes.now l.fn.linked
    (ends drawing.folds l.style l.fn.inputs ++ rest))
