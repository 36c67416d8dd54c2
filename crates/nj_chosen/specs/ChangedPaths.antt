-- A change of files in a build, as a caller supplies its paths.
use Rattle.std.specs.Prelude.{ℕ, List, map}
use Rattle.nj_chosen.specs.declared.tables.ChangedPaths.{ChangedPaths as PathsOfCode}
use Rattle.nj_chosen.specs.Reasons.{BuildChange}

-- the change with the given paths, in the given build directory
abbrev pub change_by : (build : List ℕ) → PathsOfCode → BuildChange
change_by build p = record {
  build = build;
  roots = map (λ root. root.items) p.roots.items;
  outputs = p.outputs;
  made = p.made;
  affected = p.affected;
  needing = p.needing;
  changed = p.changed;
  noticed = p.noticed;
}
