use Rattle.std.proofs.Common.{◌≡◌, ℕ, List, ◌++◌, take, map}
use Rattle.nj_text.specs.Words.{part_model}
use Rattle.nj_scope.specs.Scopes.{IsScope, value_in, expanded, parent_at, bound_at}
use Rattle.nj_scope.proofs.scopes.Scopes.append_expanded.Given as goal

abbrev pub invariant-parts : goal.invariant-parts
invariant-parts l =
    (around : List ℕ) → IsScope (parent_at l.self) l.scope.0 around
    → l.text.items ≡ l.initial.text.items
    ++ expanded (value_in (bound_at l.self) around) (map part_model (take l.part-index l.part-items))
