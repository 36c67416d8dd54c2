use Rattle.std.proofs.Common.{◌≡◌, ◌++◌, List, drop}
use Rattle.nj_scope.specs.ReadingList.{ReadStatement}
use Rattle.nj_statements.specs.EdgeList.{block_names_at, edges_read}
use Rattle.nj_graph.specs.Graph.{IsGraphOf}
use Rattle.nj_graph.specs.Handles.{edge_of}
use Rattle.nj_audit.specs.Audit.{unused_names, unused_variables_at}
use Rattle.nj_audit.proofs.variables.push_unused_variables.Given as goal

abbrev pub invariant-names : goal.invariant-names
invariant-names l =
    let edge = edge_of l.edge in
    (entries : List ReadStatement) → IsGraphOf edge.graph entries
    → l.found ++ unused_names edge.graph edge.number
    (drop l.index (block_names_at (edges_read entries) edge.number))
    ≡ l.fn.found ++ unused_variables_at edge.graph entries edge.number
