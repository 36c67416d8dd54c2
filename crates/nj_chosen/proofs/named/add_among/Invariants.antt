use Rattle.std.proofs.Common.{◌++◌, map, take}
use Rattle.std.specs.List.{filter}
use Rattle.nj_names.specs.NameTables.{is_among}
use Rattle.nj_changes.specs.Tables.{SameNames}
use Rattle.nj_chosen.proofs.named.add_among.Given as goal

abbrev pub invariant-names : goal.invariant-names
invariant-names l = SameNames l.named
    (l.fn.named ++ filter (is_among l.paths) (map (λ name. name.items) (take l.name-index l.names)))
