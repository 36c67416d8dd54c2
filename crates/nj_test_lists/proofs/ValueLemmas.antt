-- Lemmas on JSON values.
use Rattle.std.proofs.Common.{◌≡◌, List, [], ◌∷◌, map, refl, ap, ◌∙◌}
use Rattle.std.specs.Prelude.{Vec, Some}
use Rattle.std.specs.declared.alloc.Global.{Global}
use Rattle.serde_json.specs.View.{view, items_view}
use Rattle.serde_json.specs.declared.value.Value.{Value, Array}
use Rattle.serde_json.proofs.Views.{view-Array}
use Rattle.nj_test_lists.specs.Values.{listed, items}

pub listed-items_view : (values : List Value) → listed (items_view values) ≡ map view values
listed-items_view [] = refl
listed-items_view (value ∷ values) = ap (λ ds. view value ∷ ds) (listed-items_view values)

pub items-array : (v : Vec Value Global) → items (view (Array v)) ≡ Some (map view v.items)
items-array v = ap items (view-Array v) ∙ ap Some (listed-items_view v.items)
