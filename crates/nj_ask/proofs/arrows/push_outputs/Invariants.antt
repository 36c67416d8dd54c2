use Rattle.std.proofs.Common.{◌≡◌, ◌++◌, []}
use Rattle.nj_graph.specs.Handles.{edge_of}
use Rattle.nj_ask.specs.DrawnNodes.{output_files}
use Rattle.nj_ask.specs.Drawings.{arrows_to, drawn_ends, ends}
use Rattle.nj_ask.proofs.arrows.push_outputs.Given as goal

abbrev pub invariant-outputs : goal.invariant-outputs
invariant-outputs l =
    let drawing = l.drawing in
    let edge = edge_of l.edge in
    l.text.items ++ arrows_to edge (drawn_ends drawing.nodes.now l.linked
    (ends drawing.folds [] l.output-iterator))
    ≡ l.fn.text.items
    ++ arrows_to edge (drawn_ends drawing.nodes.now l.fn.linked (ends drawing.folds [] (output_files edge)))
