-- The paths of files and edges, as handles stand for them.
use Rattle.std.specs.Prelude.{◌≡◌, ℕ, Bool, List, map}
use Rattle.std.specs.List.{filter, flat_map}
use Rattle.nj_text.specs.Calls.{is_empty}
use Rattle.nj_changes.specs.FullPaths.{full_path}
use Rattle.nj_graph.specs.Edges.{outputs_of, users_of}
use Rattle.nj_graph.specs.Graph.{GraphModel, edges_of}
use Rattle.nj_graph.specs.Handles.{GraphEdge, GraphFile, edges_in, files_in, paths_of}
use Rattle.nj_graph.specs.ReadingList.{ReadStatement}
use Rattle.nj_reached.specs.GraphChanges.{full_paths, is_compiled, noticed_outputs, outputs_made}

-- the paths of files
abbrev pub paths_in : List GraphFile → List (List ℕ)
paths_in files = map (λ file. file.path) files

-- the numbers of edges
abbrev pub numbers_of : List GraphEdge → List ℕ
numbers_of edges = map (λ edge. edge.number) edges

-- all files are in the graph
abbrev pub AreIn : GraphModel → List GraphFile → Type 0
AreIn g files = files ≡ files_in g (paths_in files)

-- all edges are in the graph
abbrev pub AreOf : GraphModel → List GraphEdge → Type 0
AreOf g edges = edges ≡ edges_in g (numbers_of edges)

-- the full paths of files
abbrev pub full_paths_in : (folder : List ℕ) → List GraphFile → List (List ℕ)
full_paths_in folder files = map (λ file. full_path folder file.path) files

-- the full paths of the outputs of edges
abbrev pub full_outputs : (folder : List ℕ) → List GraphEdge → List (List ℕ)
full_outputs folder edges = flat_map (λ edge. full_paths folder (outputs_of (paths_of edge))) edges

-- the full paths of the outputs that the commands of edges make
abbrev pub full_outputs_made : (folder : List ℕ) → List GraphEdge → List (List ℕ)
full_outputs_made folder edges = flat_map (λ edge. full_paths folder (outputs_made (paths_of edge))) edges

-- the full paths of the outputs of edges that count in a directory
abbrev pub full_noticed : GraphModel → List ReadStatement → (folder : List ℕ) → List GraphEdge → List (List ℕ)
full_noticed g entries folder edges = flat_map (λ edge. full_paths folder (noticed_outputs entries (edges_of g) edge.number)) edges

-- no edge has a file as an input
abbrev pub is_unused : GraphFile → Bool
is_unused file = is_empty (users_of (edges_of file.graph) file.path)

-- the full paths of the files that no edge has as an input
abbrev pub full_unused : (folder : List ℕ) → List GraphFile → List (List ℕ)
full_unused folder files = full_paths_in folder (filter is_unused files)

-- the full paths of the files that are compiled
abbrev pub full_compiled : GraphModel → List ReadStatement → (folder : List ℕ) → List GraphFile → List (List ℕ)
full_compiled g entries folder files = full_paths_in folder (filter (λ file. is_compiled entries (edges_of g) file.path) files)
