-- Which files the manifest itself is made from.
use Rattle.std.specs.Prelude.{◌≡◌, ℕ, ◌==◌, Bool, true, ◌||◌, List, [], ◌∷◌, map}
use Rattle.std.specs.List.{filter_map, list_any}
use Rattle.nj_changes.specs.FullPaths.{full_path}
use Rattle.nj_graph.specs.ReadingList.{ReadStatement}
use Rattle.nj_graph.specs.Changes.{has_input_of, IsOrNeeds}
use Rattle.nj_graph.specs.Edges.{edge_at, maker_of}
use Rattle.nj_graph.specs.Graph.{GraphModel, edges_of}
use Rattle.nj_audit.specs.Audit.{has_generator}
use Rattle.nj_ask.specs.SameFiles.{numbers_at, path_of}

-- whether a number is among the given ones
abbrev pub is_one_of : List ℕ → (number : ℕ) → Bool
is_one_of numbers number = list_any (λ other. number == other) numbers

-- the full paths of the files that were opened: the main file, and those that `include` and `subninja` statements open
abbrev pub opened_paths : GraphModel → (working : List ℕ) → List (List ℕ)
opened_paths g working = map (λ opening. full_path working opening.path) g.origins.openings

-- the opened files that edges name, by any path
abbrev pub opened_files : GraphModel → (working : List ℕ) → List ℕ
opened_files g working = numbers_at g working (opened_paths g working)

-- the edges that make opened files
abbrev pub makers_of_opened : GraphModel → (opened : List ℕ) → List ℕ
makers_of_opened g opened = filter_map (λ file. maker_of (edges_of g) (path_of g file)) opened

-- an edge makes the manifest, where the given files were opened
abbrev pub makes_manifest : GraphModel → (opened : List ℕ) → List ReadStatement → (edge : ℕ) → Bool
makes_manifest g opened entries edge = is_one_of (makers_of_opened g opened) edge || has_generator entries edge

-- A file feeds the manifest, where the given files were opened: it is one of them, or an edge that makes the manifest is, or needs through
-- any chain of inputs, an edge that has the file as an input.
pub data FeedsManifest (g : GraphModel) (opened : List ℕ) (entries : List ReadStatement) (file : ℕ) : Type 0 where
  by_itself : is_one_of opened file ≡ true → FeedsManifest g opened entries file
  by_maker : {maker edge : ℕ} → makes_manifest g opened entries maker ≡ true → IsOrNeeds (edges_of g) maker edge
      → has_input_of (path_of g file ∷ []) (edge_at (edges_of g) edge) ≡ true → FeedsManifest g opened entries file

-- The manifest is made from a file. Files that were opened are those at the same clean paths, whatever the working directory.
abbrev pub IsMadeFrom : GraphModel → List ReadStatement → (file : ℕ) → Type 0
IsMadeFrom g entries file = FeedsManifest g (opened_files g []) entries file
