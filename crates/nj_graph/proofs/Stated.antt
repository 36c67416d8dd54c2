-- The facts that a graph keeps of the statements whose graph it is.
use Rattle.std.proofs.Common.{◌≡◌, List, map}
use Rattle.nj_scope.specs.ReadingList.{ReadStatement, rules_read}
use Rattle.nj_statements.specs.EdgeList.{edges_read, paths_of_edges}
use Rattle.nj_statements.specs.Built.{detail_of}
use Rattle.nj_graph.specs.Graph.{GraphModel, edges_of, IsGraphOf}

-- its edges
pub graph-edges : {g : GraphModel} {entries : List ReadStatement} → IsGraphOf g entries
    → edges_of g ≡ paths_of_edges (edges_read entries)
graph-edges is = is.built.paths

-- where their statements are, with their scopes and rules
pub graph-details : {g : GraphModel} {entries : List ReadStatement} → IsGraphOf g entries
    → g.built.details ≡ map detail_of (edges_read entries)
graph-details is = is.built.details

-- its rules
pub graph-rules : {g : GraphModel} {entries : List ReadStatement} → IsGraphOf g entries
    → g.declarations.rules ≡ rules_read entries
graph-rules is = is.declares.rules
