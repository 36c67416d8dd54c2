-- Laws of the trees.
use Rattle.std.specs.Prelude.{◌≡◌, ℕ, ◌≤◌, List, length}
use Rattle.nj_scope.specs.ReadingList.{ReadStatement}
use Rattle.nj_cycles.specs.Cycles.{IsAcyclic}
use Rattle.nj_edges.specs.Needs.{makers_of_inputs}
use Rattle.nj_statements.specs.EdgeList.{edges_read, paths_of_edges}
use Rattle.nj_tools.specs.Listings.{levels_of, tree_text}

-- Where no edge needs itself by a chain, depth 0 shows each tree whole: more levels change nothing.
abbrev pub DepthZeroShowsAll : Type 0
DepthZeroShowsAll = (entries : List ReadStatement)
    → IsAcyclic (makers_of_inputs (paths_of_edges (edges_read entries))) (length (paths_of_edges (edges_read entries)))
    → (levels depth : ℕ) (path : List ℕ) → levels_of (paths_of_edges (edges_read entries)) 0 ≤ levels
    → tree_text entries levels depth path ≡ tree_text entries (levels_of (paths_of_edges (edges_read entries)) 0) depth path
