-- Turns. A turn is a look at one place of the target list or of a list of inputs, or the closing of an edge.
use Rattle.std.specs.Prelude.{ℕ, ◌+◌, Option, List, length}
use Rattle.std.specs.List.{sum_by}
use Rattle.nj_needs.specs.Order.{order}

-- a whole walk looks at each target once, and at each input of each needed edge once, and closes each needed edge once
abbrev pub turn_bound : (makers : ℕ → List (Option ℕ)) → (count : ℕ) → (targets : List (Option ℕ)) → ℕ
turn_bound makers count targets = length targets + sum_by (λ e. 1 + length (makers e)) (order makers count targets)
