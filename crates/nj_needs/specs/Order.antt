-- The needed edges in the order in which they are first completed, from left to right.
use Rattle.std.specs.Prelude.{ℕ, zero, suc, Bool, not, Option, Some, None, List, [], ◌∷◌, ◌++◌, nat_eq, filter}
use Rattle.std.specs.List.{flat_map}
use Rattle.nj_edges.specs.Repeats.{each_once}

-- the list that belongs to the maker of an input; empty for a source
abbrev pub made_by : {A : Type 0} → (of_edge : ℕ → List A) → (maker : Option ℕ) → List A
made_by of_edge None = []
made_by of_edge (Some e) = of_edge e

-- edge e after all that it needs, with repeats: the same of each of its makers in turn, and then e.
-- Along needs a rank falls, so a fuel of the rank or more is enough.
abbrev pub unfolded : (makers : ℕ → List (Option ℕ)) → (fuel : ℕ) → ℕ → List ℕ
unfolded makers zero e = e ∷ []
unfolded makers (suc fuel) e = flat_map (made_by (unfolded makers fuel)) (makers e) ++ e ∷ []

-- the same of each maker of a row, in a graph of `count` edges
abbrev pub unfolded_row : (makers : ℕ → List (Option ℕ)) → (count : ℕ) → List (Option ℕ) → List ℕ
unfolded_row makers count row = flat_map (made_by (unfolded makers count)) row

-- the targets' makers and the edges that they need, each edge once, where it is first completed
abbrev pub order : (makers : ℕ → List (Option ℕ)) → (count : ℕ) → (targets : List (Option ℕ)) → List ℕ
order makers count targets = each_once nat_eq (unfolded_row makers count targets)

-- the needed edges that have a command
abbrev pub needed_commands : (makers : ℕ → List (Option ℕ)) → (count : ℕ) → (phony : ℕ → Bool) → (targets : List (Option ℕ)) → List ℕ
needed_commands makers count phony targets = filter (λ e. not (phony e)) (order makers count targets)
