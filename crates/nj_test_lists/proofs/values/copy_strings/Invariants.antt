use Rattle.std.proofs.Common.{map, drop, string_bytes}
use Rattle.serde_json.specs.Find.{as_str}
use Rattle.serde_json.specs.View.{view}
use Rattle.nj_test_lists.specs.Values.{each}
use Rattle.nj_test_lists.proofs.ListLemmas.{Stands}
use Rattle.nj_test_lists.proofs.values.copy_strings.Given as goal

abbrev pub invariant-values : goal.invariant-values
invariant-values l = Stands (each as_str (map view l.values)) (map string_bytes l.strings.items)
    (each as_str (map view (drop l.value-index l.values)))
