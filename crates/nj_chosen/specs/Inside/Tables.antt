-- The paths of a change, in the tables of the code.
use Rattle.std.specs.Prelude.{ℕ, Bool, ◌&&◌, List, map}
use Rattle.nj_names.specs.NameTables.{is_among}
use Rattle.nj_chosen.specs.declared.tables.PathTables.{PathTables}
use Rattle.nj_chosen.specs.Directories.{is_telling}
use Rattle.nj_chosen.specs.Reasons.{PathKinds}

-- a path is a telling directory, and is in a table
abbrev pub has_folder : (roots folders : List (List ℕ)) → (path : List ℕ) → Bool
has_folder roots folders path = is_telling roots path && is_among folders path

-- what a path is by the tables
abbrev pub kinds_in : PathTables → PathKinds
kinds_in t =
    let roots = map (λ root. root.items) t.paths.roots.items in
    record {
      is_output = is_among t.paths.outputs;
      is_affected = is_among t.paths.affected;
      is_changed = is_among t.paths.changed;
      needs_affected = is_among t.paths.needing;
      has_outputs = has_folder roots t.made_folders;
      has_counted = has_folder roots t.counted_folders;
    }
