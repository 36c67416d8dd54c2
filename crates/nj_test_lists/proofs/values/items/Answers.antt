use Rattle.std.proofs.Common.{Some, map, sym, ap, ◌∙◌}
use Rattle.serde_json.specs.View.{view}
use Rattle.nj_test_lists.specs.Values.{items}
use Rattle.nj_test_lists.proofs.ValueLemmas.{items-array}
use Rattle.nj_test_lists.proofs.values.items.Goals as goal

pub returns-in-Array : goal.returns-in-Array
returns-in-Array c = ap (λ vs. Some (map view vs)) c.as_slice.ensures.value
    ∙ sym (items-array c.in-Array.values)
    ∙ ap (λ v. items (view v)) (sym c.in-Array.is)
