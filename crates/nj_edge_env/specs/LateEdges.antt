-- The names of an edge, as the program has it.
use Rattle.std.specs.Prelude.{ℕ, List, map, bytes_eq}
use Rattle.nj_names.specs.Files.{path_at}
use Rattle.nj_scope.specs.Rules.{phony}
use Rattle.nj_edge_env.specs.Blocks.{bound_in}
use Rattle.nj_edge_env.specs.declared.late_edge.LateEdge.{LateEdge}
use Rattle.nj_edge_env.specs.LateStrings.{LateNames}

-- the names to which an edge gives values
abbrev pub late_names : LateEdge → (file : List ℕ → List ℕ) → LateNames
late_names e file = record {
  inputs = map (path_at e.files.now) e.inputs.now;
  outputs = map (path_at e.files.now) e.outputs.now;
  block = bound_in e.blocks.now e.edge;
  lines = e.rule.now.lines;
  is_phony = bytes_eq e.rule.now.name phony;
  file = file;
}
