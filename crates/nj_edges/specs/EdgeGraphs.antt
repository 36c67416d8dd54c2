-- A graph of edges: the paths of its files, without duplicates, and its edges in reading order.
use Rattle.std.specs.Prelude.{ℕ, List}
use Rattle.nj_edges.specs.Edges.{EdgePaths}

-- files and edges, both by their paths
pub record EdgeGraph : Type 0 where
  pub files : List (List ℕ)
  pub edges : List EdgePaths
