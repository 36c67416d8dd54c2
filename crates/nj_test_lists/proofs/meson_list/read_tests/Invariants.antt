use Rattle.std.proofs.Common.{map, take}
use Rattle.serde_json.specs.View.{view}
use Rattle.nj_tests.specs.Tests.{test_model}
use Rattle.nj_test_lists.specs.Meson.{AreMesonTests}
use Rattle.nj_test_lists.proofs.meson_list.read_tests.Given as goal

abbrev pub invariant-tests : goal.invariant-tests
invariant-tests l = AreMesonTests l.targets (take l.number (map view l.values)) (map test_model l.tests.items)
