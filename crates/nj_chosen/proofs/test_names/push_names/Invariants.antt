use Rattle.std.proofs.Common.{◌≡◌, ◌++◌, map, take, string_bytes}
use Rattle.std.specs.Prelude.{option_copied}
use Rattle.std.specs.List.{flat_map}
use Rattle.nj_tests.specs.Words.{names_of}
use Rattle.nj_chosen.proofs.test_names.push_names.Given as goal

abbrev pub invariant-words : goal.invariant-words
invariant-words l = map (λ name. name.items) l.names.items
    ≡ map (λ name. name.items) l.fn.names.items
    ++ flat_map (names_of l.build (option_copied l.folder)) (map string_bytes (take l.word-index l.words))
