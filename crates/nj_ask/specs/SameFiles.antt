-- One file of a graph, however its path is written.
use Rattle.std.specs.Prelude.{ℕ, unwrap_or, List, [], length, slice_get}
use Rattle.std.specs.List.{filter, range_with_len}
use Rattle.nj_changes.specs.FullPaths.{full_path}
use Rattle.nj_graph.specs.Edges.{is_among}
use Rattle.nj_graph.specs.Graph.{GraphModel, files_of}

-- the path of the file with the given number
abbrev pub path_of : GraphModel → (file : ℕ) → List ℕ
path_of g file = unwrap_or (slice_get (files_of g) file) []

-- the full path of the file with the given number
abbrev pub full_path_of : GraphModel → (working : List ℕ) → (file : ℕ) → List ℕ
full_path_of g working file = full_path working (path_of g file)

-- the numbers of the files whose full paths are among the given ones, in rising order
abbrev pub numbers_at : GraphModel → (working : List ℕ) → (paths : List (List ℕ)) → List ℕ
numbers_at g working paths = filter (λ file. is_among paths (full_path_of g working file)) (range_with_len 0 (length (files_of g)))
