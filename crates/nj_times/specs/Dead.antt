-- Outputs of a build log that the manifest no longer has.
use Rattle.std.specs.Prelude.{ℕ, Bool, not, ◌&&◌, is_none, List}
use Rattle.std.specs.List.{filter}
use Rattle.nj_build_log.specs.Logs.{LineModel, outputs_of}
use Rattle.nj_edges.specs.Edges.{EdgePaths, is_used, maker_of}

-- no edge makes the file or has it as an input; validations are not inputs
abbrev pub is_dead : List EdgePaths → (path : List ℕ) → Bool
is_dead edges path = is_none (maker_of edges path) && not (is_used edges path)

-- the outputs that the log has and that are dead, in the order of their first lines
abbrev pub dead_outputs : List EdgePaths → List LineModel → List (List ℕ)
dead_outputs edges lines = filter (is_dead edges) (outputs_of lines)
