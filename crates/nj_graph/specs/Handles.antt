-- Files and edges of a graph, as its handles stand for them.
use Rattle.std.specs.Prelude.{◌≡◌, ◌↔◌, ℕ, List, Contains, map, position, bytes_eq, nat_eq, unwrap_or}
use Rattle.std.specs.List.{IsDistinct}
use Rattle.std.specs.List.Sorted.{IsStrictlyIncreasing}
use Rattle.nj_scope.specs.ReadingList.{ReadStatement}
use Rattle.nj_names.specs.NameTables.{name_at}
use Rattle.nj_edges.specs.Edges.{EdgePaths, edge_at}
use Rattle.nj_edges.specs.Changes.{IsAffected}
use Rattle.nj_edges.specs.Distances.{AreNearestFirst, IsNeeded}
use Rattle.nj_needs.specs.Graphs.{count_of, is_phony, makers_of, row_of_paths}
use Rattle.nj_needs.specs.Order.{needed_commands}
use Rattle.nj_statements.specs.Built.{EdgeDetail, detail_at}
use Rattle.nj_graph.specs.Graph.{GraphModel, OfStatements, edges_of, files_of}
use Rattle.nj_graph.specs.declared.handles.Edge.{Edge}
use Rattle.nj_graph.specs.declared.handles.File.{File}

-- a file of a graph, by its path
pub record GraphFile : Type 0 where
  pub graph : GraphModel
  pub path : List ℕ

-- an edge of a graph, by its number
pub record GraphEdge : Type 0 where
  pub graph : GraphModel
  pub number : ℕ

-- files of a graph, by their paths
pub record GraphFiles : Type 0 where
  pub graph : GraphModel
  pub paths : List (List ℕ)

-- the file with the given path
abbrev pub file_in : GraphModel → (path : List ℕ) → GraphFile
file_in graph path = record { graph = graph; path = path }

-- the edge with the given number
abbrev pub edge_in : GraphModel → (number : ℕ) → GraphEdge
edge_in graph number = record { graph = graph; number = number }

-- the files with the given paths
abbrev pub files_in : GraphModel → (paths : List (List ℕ)) → List GraphFile
files_in graph paths = map (file_in graph) paths

-- the edges with the given numbers
abbrev pub edges_in : GraphModel → (numbers : List ℕ) → List GraphEdge
edges_in graph numbers = map (edge_in graph) numbers

-- the file that a handle stands for
abbrev pub file_of : File → GraphFile
file_of file = file_in file.graph.now (name_at (files_of file.graph.now) file.number.0)

-- the number of a file: the position of its path among the paths of its graph
abbrev pub number_of : GraphFile → ℕ
number_of file = unwrap_or (position (bytes_eq file.path) (files_of file.graph)) 0

-- the edge that a handle stands for
abbrev pub edge_of : Edge → GraphEdge
edge_of edge = edge_in edge.graph.now edge.number.0

-- the paths of an edge
abbrev pub paths_of : GraphEdge → EdgePaths
paths_of edge = edge_at (edges_of edge.graph) edge.number

-- the record of an edge besides its paths and its block
abbrev pub detail_of_edge : GraphEdge → EdgeDetail
detail_of_edge edge = detail_at edge.graph.built.details edge.number

-- The property holds of the edge, by its number and any statements that its graph is the graph of.
abbrev pub OfEdge : GraphEdge → (List ReadStatement → (number : ℕ) → Type 0) → Type 0
OfEdge edge holds = OfStatements edge.graph (λ entries. holds entries edge.number)

-- ---- edges that are found

-- the edges that a change of the files affects, in reading order
pub record ListsAffected (graph : GraphModel) (files : List (List ℕ)) (found : List GraphEdge) : Type 0 where
  pub numbers : List ℕ
  pub found_are : found ≡ edges_in graph numbers
  pub affected : (edge : ℕ) → Contains numbers edge ↔ IsAffected (edges_of graph) files edge
  pub rises : IsStrictlyIncreasing numbers

-- the edges that the files need, without duplicates, nearest first
pub record ListsNeeded (graph : GraphModel) (files : List (List ℕ)) (found : List GraphEdge) : Type 0 where
  pub numbers : List ℕ
  pub found_are : found ≡ edges_in graph numbers
  pub needed : (edge : ℕ) → Contains numbers edge ↔ IsNeeded (edges_of graph) files edge
  pub each_once : IsDistinct nat_eq numbers
  pub nearest_first : AreNearestFirst (edges_of graph) files numbers

-- the edges whose commands the files need
abbrev pub commands_needed : GraphFiles → List GraphEdge
commands_needed files =
    let g = files.graph.built.graph in
    edges_in files.graph (needed_commands (makers_of g) (count_of g) (is_phony g) (row_of_paths g.edges files.paths))
