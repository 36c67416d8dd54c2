use Rattle.std.proofs.Common.{map, drop}
use Rattle.serde_json.specs.View.{view}
use Rattle.nj_test_lists.specs.CTest.{property_of}
use Rattle.nj_test_lists.specs.Values.{each}
use Rattle.nj_test_lists.specs.Inside.Reading.{property_model}
use Rattle.nj_test_lists.proofs.ListLemmas.{Stands}
use Rattle.nj_test_lists.proofs.properties.collect_properties.Given as goal

abbrev pub invariant-values : goal.invariant-values
invariant-values l = Stands (each property_of (map view l.values)) (map property_model l.properties.items)
    (each property_of (map view (drop l.value-index l.values)))
