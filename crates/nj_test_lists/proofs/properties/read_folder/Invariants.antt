use Rattle.std.proofs.Common.{◌≡◌, ◌++◌, map, drop}
use Rattle.std.specs.Prelude.{codes}
use Rattle.nj_test_lists.specs.CTest.{values_of}
use Rattle.nj_test_lists.specs.Inside.Reading.{property_model}
use Rattle.nj_test_lists.proofs.PropertyLemmas.{found_values}
use Rattle.nj_test_lists.proofs.properties.read_folder.Given as goal

abbrev pub invariant-properties : goal.invariant-properties
invariant-properties l = values_of (codes "WORKING_DIRECTORY") (map property_model l.properties)
    ≡ found_values l.found
    ++ values_of (codes "WORKING_DIRECTORY") (map property_model (drop l.property-index l.properties))
