use Rattle.std.proofs.Common.{◌≡◌, ◌+◌, length}
use Rattle.std.specs.Prelude.{not}
use Rattle.std.specs.List.{filter}
use Rattle.nj_graph.specs.Handles.{edge_of}
use Rattle.nj_ask.specs.DrawnNodes.{has_node, node_of}
use Rattle.nj_ask.specs.Drawings.{left_out}
use Rattle.nj_ask.proofs.node_lines.left_out.Given as goal

abbrev pub invariant-inputs : goal.invariant-inputs
invariant-inputs l =
    l.count + length (filter (λ file. not (has_node l.nodes (node_of l.folds file))) l.input-iterator)
    ≡ left_out l.folds l.nodes (edge_of l.edge)
