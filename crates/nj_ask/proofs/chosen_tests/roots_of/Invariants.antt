use Rattle.std.proofs.Common.{◌≡◌, map, take}
use Rattle.std.specs.Prelude.{string_bytes}
use Rattle.nj_ask.specs.ChosenTests.{roots_of}
use Rattle.nj_ask.proofs.chosen_tests.roots_of.Given as goal

abbrev pub invariant-dirs : goal.invariant-dirs
invariant-dirs l = map (λ root. root.items) l.roots.items
    ≡ roots_of l.folder (map string_bytes (take l.dir-index l.dirs))
