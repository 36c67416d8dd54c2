use Rattle.std.proofs.Common.{map, string_bytes}
use Rattle.serde_json.specs.View.{members_view}
use Rattle.nj_test_lists.specs.Meson.{assignments}
use Rattle.nj_test_lists.proofs.ListLemmas.{Stands}
use Rattle.nj_test_lists.proofs.meson_list.read_variables.Given as goal

abbrev pub invariant-variables : goal.invariant-variables
invariant-variables l = Stands (assignments (members_view l.fn.variables.entries))
    (map string_bytes l.assignments.items) (assignments (members_view l.name-iterator))
