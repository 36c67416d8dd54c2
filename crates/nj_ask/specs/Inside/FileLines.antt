-- The lines of files and of edges, one after another.
use Rattle.std.specs.Prelude.{ℕ, List}
use Rattle.std.specs.List.{flat_map}
use Rattle.nj_graph.specs.Handles.{GraphEdge, GraphFile}
use Rattle.nj_ask.specs.Affected.{line_of_output, lines_of_outputs, Asked}

-- the lines of the files whose paths begin with the prefix
abbrev pub path_lines : (prefix : List ℕ) → List GraphFile → List ℕ
path_lines prefix files = flat_map (λ file. line_of_output prefix file.path) files

-- the lines of the requested outputs of edges
abbrev pub output_lines : Asked → List GraphEdge → List ℕ
output_lines asked edges = flat_map (λ edge. lines_of_outputs edge.graph asked edge.number) edges
