-- The files that names mean, found one by one. Nothing here has to be believed.
use Rattle.std.specs.Prelude.{◌≡◌, ℕ, List, ◌++◌}
use Rattle.std.specs.List.{filter_map}
use Rattle.nj_graph.specs.Graph.{GraphModel}
use Rattle.nj_graph.specs.Handles.{GraphFile}
use Rattle.nj_audit.specs.NamedPaths.{SeenName}
use Rattle.nj_audit.specs.UnorderedFiles.{file_named}
use Rattle.nj_audit.specs.Inside.Handles.{files_numbered}

-- the files that the given names mean come after the files found before
abbrev pub AddsFiles : GraphModel → (folder : List ℕ) → (names : List SeenName) → (old new : List GraphFile) → Type 0
AddsFiles g folder names old new = new ≡ old ++ files_numbered g (filter_map (file_named g folder) names)
