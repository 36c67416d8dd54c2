-- Which edges were seen, by a flag for each edge.
use Rattle.std.specs.Prelude.{◌≡◌, ℕ, ◌<◌, Bool, false, not, ◌&&◌, Option, Some, None, if◌then◌else◌, List, [], ◌∷◌, nat_eq, length, slice_index_or}
use Rattle.std.specs.List.{list_any}
use Rattle.nj_edges.specs.Edges.{maker_of}
use Rattle.nj_needs.specs.Graphs.{is_phony_in}
use Rattle.nj_needs.specs.Order.{made_by}
use Rattle.nj_graph.specs.Graph.{GraphModel, edges_of}
use Rattle.nj_graph.specs.Handles.{GraphFile}

-- the given edges are those of the graph that were seen
pub record AreSeen (graph : GraphModel) (flags : List Bool) (edges : List ℕ) : Type 0 where
  pub count : length flags ≡ length (edges_of graph)
  pub flagged : (e : ℕ) → e < length (edges_of graph) → slice_index_or flags e false ≡ list_any (nat_eq e) edges

-- an edge by itself
abbrev pub single : ℕ → List ℕ
single e = e ∷ []

-- the edge that makes a file, if any
abbrev pub makers_of_file : GraphFile → List ℕ
makers_of_file file = made_by single (maker_of (edges_of file.graph) file.path)

-- an edge that has a command and was not met earlier
abbrev pub new_of : GraphModel → (earlier : List ℕ) → (maker : Option ℕ) → Option ℕ
new_of graph earlier None = None
new_of graph earlier (Some e) = if not (list_any (nat_eq e) earlier) && not (is_phony_in (edges_of graph) e) then Some e else None

-- the edge that makes a file, if it has a command and was not met earlier
abbrev pub new_command : GraphFile → (earlier : List ℕ) → Option ℕ
new_command file earlier = new_of file.graph earlier (maker_of (edges_of file.graph) file.path)
