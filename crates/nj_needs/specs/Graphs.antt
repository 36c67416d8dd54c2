-- The makers of inputs and targets in a graph of edges. The definitions of the walk meet the graph's value only here.
use Rattle.std.specs.Prelude.{ℕ, Bool, Option, List, map, length}
use Rattle.nj_names.specs.declared.files.FileNo.{FileNo}
use Rattle.nj_edges.specs.EdgeGraphs.{EdgeGraph}
use Rattle.nj_edges.specs.Edges.{EdgePaths, edge_at, maker_of}
use Rattle.nj_names.specs.Files.{path_at}
use Rattle.nj_edges.specs.Needs.{makers_of_inputs}

-- ---- files by their paths

-- the maker of each file of a list
abbrev pub row_of_paths : List EdgePaths → (paths : List (List ℕ)) → List (Option ℕ)
row_of_paths edges paths = map (maker_of edges) paths

-- the edge with the given number is phony
abbrev pub is_phony_in : List EdgePaths → ℕ → Bool
is_phony_in edges e = (edge_at edges e).is_phony

-- ---- files by their numbers

-- the makers of the given files, one for each; a source has no maker
abbrev pub row_of : EdgeGraph → List FileNo → List (Option ℕ)
row_of g files = row_of_paths g.edges (map (path_at g.files) files)

-- the makers of an edge's inputs
abbrev pub makers_of : EdgeGraph → ℕ → List (Option ℕ)
makers_of g e = makers_of_inputs g.edges e

-- how many edges there are
abbrev pub count_of : EdgeGraph → ℕ
count_of g = length g.edges

-- the edge with the given number is phony
abbrev pub is_phony : EdgeGraph → ℕ → Bool
is_phony g e = is_phony_in g.edges e
