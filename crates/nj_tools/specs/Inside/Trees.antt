-- How trees are written, row by row.
use Rattle.std.specs.Prelude.{◌≡◌, ℕ, zero, suc, ◌+◌, ◌-◌, List, [], ◌∷◌, ◌++◌, map, flat_map, length, sum_by, nat_lt, if◌then◌else◌}
use Rattle.std.specs.List.{AllByRecursion}
use Rattle.nj_scope.specs.ReadingList.{ReadStatement}
use Rattle.nj_edges.specs.Edges.{EdgePaths, maker_of}
use Rattle.nj_graph.specs.Graph.{GraphModel, edges_of}
use Rattle.nj_graph.specs.Handles.{GraphFile, files_in}
use Rattle.nj_tools.specs.Listings.{inputs_of_maker, tree_text}

-- the trees of the rest of rows of files, the deepest row last, where the given number of levels is written
unfoldable pub rows_text : List ReadStatement → (levels depth : ℕ) → (rows : List (List (List ℕ))) → List ℕ
rows_text entries levels depth [] = []
rows_text entries levels depth (row ∷ deeper) =
    rows_text entries levels (depth + 1) deeper ++ flat_map (tree_text entries (levels - depth) depth) row

-- the rows after a file was written: the rest of its row, and then the inputs of its maker, unless it is on the last
-- level
abbrev pub rows_after : List EdgePaths → (levels : ℕ) → (rows : List (List (List ℕ))) → (path : List ℕ) → (others : List (List ℕ))
    → List (List (List ℕ))
rows_after edges levels rows path others =
    if nat_lt (length rows + 1) levels then (rows ++ others ∷ []) ++ inputs_of_maker edges (maker_of edges path) ∷ []
    else rows ++ others ∷ []

-- ---- how they are held

-- rows of files by their paths
abbrev pub rows_of : (rows : List (List GraphFile)) → List (List (List ℕ))
rows_of rows = map (λ row. map (λ file. file.path) row) rows

-- all files in the rows are files of the graph
abbrev pub AreIn : GraphModel → (rows : List (List GraphFile)) → Type 0
AreIn graph rows = AllByRecursion (λ row. AllByRecursion (λ file. file.graph ≡ graph) row) rows

-- the inputs of a file's maker
abbrev pub inputs_below : GraphFile → List GraphFile
inputs_below file = files_in file.graph (inputs_of_maker (edges_of file.graph) (maker_of (edges_of file.graph) file.path))

-- the rows after a file was written, as above
abbrev pub rows_left : (levels : ℕ) → (rows : List (List GraphFile)) → (file : GraphFile) → (others : List GraphFile)
    → List (List GraphFile)
rows_left levels rows file others =
    if nat_lt (length rows + 1) levels then (rows ++ others ∷ []) ++ inputs_below file ∷ [] else rows ++ others ∷ []

-- ---- how long it takes

-- how many lines a tree has
unfoldable pub tree_lines : List EdgePaths → (levels : ℕ) → (path : List ℕ) → ℕ
tree_lines edges zero path = 0
tree_lines edges (suc levels) path = 1 + sum_by (tree_lines edges levels) (inputs_of_maker edges (maker_of edges path))

-- how many lines are left of the rows
unfoldable pub rows_lines : List EdgePaths → (levels depth : ℕ) → (rows : List (List (List ℕ))) → ℕ
rows_lines edges levels depth [] = 0
rows_lines edges levels depth (row ∷ deeper) =
    rows_lines edges levels (depth + 1) deeper + sum_by (tree_lines edges (levels - depth)) row
