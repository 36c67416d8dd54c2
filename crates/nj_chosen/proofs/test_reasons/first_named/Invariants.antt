use Rattle.std.proofs.Common.{◌≡◌, map, drop}
use Rattle.nj_chosen.specs.Inside.Tables.{kinds_in}
use Rattle.nj_chosen.specs.Reasons.{first_named}
use Rattle.nj_chosen.proofs.test_reasons.first_named.Given as goal

abbrev pub invariant-paths : goal.invariant-paths
invariant-paths l = first_named (kinds_in l.tables) (map (λ path. path.items) l.paths)
    ≡ first_named (kinds_in l.tables) (map (λ path. path.items) (drop l.path-index l.paths))
