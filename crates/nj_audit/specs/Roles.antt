-- The roles of edges: which are run by hand, and which make the manifest.
use Rattle.std.specs.Prelude.{ℕ, Bool, false, ◌&&◌, not, Option, Some, None, option_and_then, List, [], codes, map, bytes_eq}
use Rattle.std.specs.List.{filter_map}
use Rattle.nj_names.specs.NumberSets.{has}
use Rattle.nj_scope.specs.ReadingList.{ReadStatement}
use Rattle.nj_statements.specs.EdgeList.{assigned_at, assigned_read}
use Rattle.nj_graph.specs.Edges.{maker_of}
use Rattle.nj_graph.specs.Graph.{GraphModel, edges_of, files_of}
use Rattle.nj_graph.specs.Handles.{commands_needed}
use Rattle.nj_graph.specs.Origins.{OpeningModel}
use Rattle.nj_audit.specs.Audit.{defaults_of, path_of}
use Rattle.nj_audit.specs.NamedPaths.{number_at, path_named}

-- ---- edges that are run by hand

-- a pool is `console`, whose commands have the terminal
abbrev pub is_console : Option (List ℕ) → Bool
is_console None = false
is_console (Some pool) = bytes_eq pool (codes "console")

-- the edges whose commands the defaults need
abbrev pub built_by_default : GraphModel → List ℕ
built_by_default g = map (λ edge. edge.number) (commands_needed (record { graph = g; paths = defaults_of g }))

-- An edge in the pool `console` that no default needs is run by hand, as by `ninja menuconfig`.
abbrev pub is_run_by_hand : GraphModel → List ReadStatement → (edge : ℕ) → Bool
is_run_by_hand g entries edge =
    is_console (assigned_at (assigned_read entries) edge).pool && not (has (built_by_default g) edge)

-- ---- edges that make the manifest

-- the edge that makes a file that was opened: the main file, or one that it includes
abbrev pub maker_of_opened : GraphModel → OpeningModel → Option ℕ
maker_of_opened g opening =
    option_and_then (λ file. maker_of (edges_of g) (path_of g file))
    (option_and_then (number_at (files_of g)) (path_named [] opening.path))

-- the edges that make files of the manifest
abbrev pub makers_of_opened : GraphModel → List ℕ
makers_of_opened g = filter_map (maker_of_opened g) g.origins.openings

-- the given edge, if any, makes a file of the manifest
abbrev pub makes_opened : GraphModel → (edge : Option ℕ) → Bool
makes_opened g None = false
makes_opened g (Some edge) = has (makers_of_opened g) edge
