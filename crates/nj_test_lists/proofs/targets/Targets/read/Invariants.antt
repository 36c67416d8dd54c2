use Rattle.std.proofs.Common.{◌≡◌, Some, map, take, string_bytes}
use Rattle.std.specs.Prelude.{codes, bytes_eq}
use Rattle.std.specs.List.{IsDistinct}
use Rattle.serde_json.specs.View.{view}
use Rattle.nj_test_lists.specs.Values.{each, string_at}
use Rattle.nj_test_lists.specs.Meson.{files_made}
use Rattle.nj_test_lists.proofs.targets.Targets.read.Given as goal

abbrev pub invariant-values : goal.invariant-values
invariant-values l = record {
  ids : each (string_at (codes "id")) (take l.number (map view l.values)) ≡ Some l.ids;
  files : each (files_made l.build) (take l.number (map view l.values))
      ≡ Some (map (λ strings. map string_bytes strings.items) l.files.items);
  distinct : IsDistinct bytes_eq l.ids;
}
