use Rattle.std.proofs.Common.{◌≡◌, map, take, Some}
use Rattle.std.specs.Prelude.{slice_get}
use Rattle.nj_scope.specs.Rules.{rules_in}
use Rattle.nj_graph.proofs.graph.rules_of_main.Given as goal

abbrev pub invariant-rules : goal.invariant-rules
invariant-rules l = map (slice_get l.rules) l.numbers.items
    ≡ map (λ r. Some r) (rules_in (take l.number l.rules) 0)
