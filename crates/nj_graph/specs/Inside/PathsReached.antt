-- The paths that a reading reaches, as they come one by one.
use Rattle.std.specs.Prelude.{ℕ, if◌then◌else◌, List, [], ◌∷◌, ◌++◌, bytes_eq}
use Rattle.std.specs.Option.{option_to_list}
use Rattle.std.specs.List.{list_any}
use Rattle.nj_scope.specs.Readings.{Reading, paths_of}
use Rattle.nj_scope.specs.ReadingList.{ReadStatement, path_named}
use Rattle.nj_statements.specs.EdgeList.{Pending}
use Rattle.nj_graph.specs.Reading.{ReadingModel, main_read, path_at_end}
use Rattle.nj_graph.specs.Runs.{ReachedModel}
use Rattle.nj_graph.specs.Joining.{files_joined}

-- the paths with one more path at the end, unless it is among them already
abbrev pub with_new : (before : List (List ℕ)) → (path : List ℕ) → List (List ℕ)
with_new before path = if list_any (bytes_eq path) before then before else before ++ path ∷ []

-- the same for each of the given paths, from left to right
abbrev pub with_news : (before paths : List (List ℕ)) → List (List ℕ)
with_news before [] = before
with_news before (path ∷ paths) = with_news (with_new before path) paths

-- the main file, and the files that the statements name
abbrev pub paths_read : (main : List ℕ) → List ReadStatement → List (List ℕ)
paths_read main [] = main ∷ []
paths_read main (e ∷ before) = with_news (paths_read main before) (option_to_list (path_named e before e.item))

-- with the path at the end of the reading
abbrev pub come_to : (main : List ℕ) → ReadingModel → List (List ℕ)
come_to main r = with_news (paths_read main r.entries) (path_at_end r.end)

abbrev pub reached_by : (main : List ℕ) → ReadingModel → ReachedModel
reached_by main r = record { read = r; paths = come_to main r }

-- the reading of the main file
abbrev pub reached_of : (main : List ℕ) → (files : List Reading) → ReachedModel
reached_of main files = reached_by main (main_read files main)

-- ---- after other files

abbrev pub come_after : (before : List (List ℕ)) → ReachedModel → ReachedModel
come_after before joined = record { read = joined.read; paths = with_news before joined.paths }

abbrev pub come_joined : (old : List Reading) → (stated : List ReadStatement) → (dyndeps : List Pending) → (files : List Reading)
    → ReachedModel
come_joined old stated dyndeps files = come_after (paths_of old) (files_joined files stated dyndeps stated)
