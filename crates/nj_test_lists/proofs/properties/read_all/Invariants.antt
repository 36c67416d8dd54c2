use Rattle.std.proofs.Common.{map, drop, string_bytes}
use Rattle.nj_test_lists.specs.CTest.{strings_of_all}
use Rattle.nj_test_lists.specs.Inside.Reading.{property_model}
use Rattle.nj_test_lists.proofs.ListLemmas.{Stands}
use Rattle.nj_test_lists.proofs.properties.read_all.Given as goal

abbrev pub invariant-meant : goal.invariant-meant
invariant-meant l = Stands (strings_of_all (map property_model l.properties) l.meant)
    (map string_bytes l.strings.items)
    (strings_of_all (map property_model l.properties) (drop l.property-index l.meant))
