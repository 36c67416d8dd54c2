-- The texts of files, one after another.
use Rattle.std.specs.Prelude.{ℕ, List}
use Rattle.std.specs.List.{flat_map}
use Rattle.nj_graph.specs.declared.Kind.{Kind}
use Rattle.nj_graph.specs.Graph.{edges_of}
use Rattle.nj_graph.specs.Handles.{GraphFile}
use Rattle.nj_keys.specs.Bases.{mapped}
use Rattle.nj_keys.specs.Keys.{field, input_fields, input_text}

-- the texts of the paths of files
abbrev pub path_texts : (folders : List (List ℕ)) → List GraphFile → List ℕ
path_texts folders files = flat_map (λ file. field (mapped folders file.path)) files

-- the texts of inputs of a kind
abbrev pub input_texts : (folders : List (List ℕ)) → (keys : ℕ → List ℕ) → Kind → List GraphFile → List ℕ
input_texts folders keys kind files =
    flat_map (λ file. input_text (input_fields folders (edges_of file.graph) keys kind file.path)) files
