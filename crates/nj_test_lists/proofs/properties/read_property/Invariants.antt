use Rattle.std.proofs.Common.{map, drop, string_bytes}
use Rattle.nj_test_lists.specs.CTest.{property_name, property_strings, values_of}
use Rattle.nj_test_lists.specs.Values.{joined, strings}
use Rattle.nj_test_lists.specs.Inside.Reading.{property_model}
use Rattle.nj_test_lists.proofs.ListLemmas.{Stands}
use Rattle.nj_test_lists.proofs.properties.read_property.Given as goal

abbrev pub invariant-properties : goal.invariant-properties
invariant-properties l = Stands (property_strings (map property_model l.properties) l.fn.meant)
    (map string_bytes l.strings.items)
    (joined strings (values_of (property_name l.fn.meant)
    (map property_model (drop l.property-index l.properties))))
