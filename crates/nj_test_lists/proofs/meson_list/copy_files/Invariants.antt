use Rattle.std.proofs.Common.{map, drop, string_bytes}
use Rattle.serde_json.specs.View.{view}
use Rattle.nj_test_lists.specs.Meson.{files_of}
use Rattle.nj_test_lists.specs.Values.{joined}
use Rattle.nj_test_lists.proofs.ListLemmas.{Stands}
use Rattle.nj_test_lists.proofs.meson_list.copy_files.Given as goal

abbrev pub invariant-ids : goal.invariant-ids
invariant-ids l = Stands (joined (files_of l.targets) (map view l.ids)) (map string_bytes l.built.items)
    (joined (files_of l.targets) (map view (drop l.id-index l.ids)))
