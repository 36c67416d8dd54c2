use Rattle.std.proofs.Common.{◌≡◌, ◌++◌, map, drop, string_bytes}
use Rattle.nj_test_lists.proofs.meson_list.copied.Given as goal

abbrev pub invariant-strings : goal.invariant-strings
invariant-strings l =
    map string_bytes l.strings ≡ map string_bytes l.again.items
    ++ map string_bytes (drop l.string-index l.strings)
