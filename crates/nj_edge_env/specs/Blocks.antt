-- The values that the blocks of build statements bind.
use Rattle.std.specs.Prelude.{ℕ, ◌==◌, Option, List, [], option_and_then, slice_index_or, bytes_eq}
use Rattle.std.specs.Map.{lookup}

-- for each name, the edges whose blocks bind it, with the values; for each edge up to the last edge with a binding, the names
-- that its block binds, without duplicates, in the order of their first bindings; and the last edge whose block got a
-- binding, initially 0
pub record BlocksModel : Type 0 where
  pub values : List (List ℕ × List (ℕ × List ℕ))
  pub names : List (List (List ℕ))
  pub last : ℕ

-- the value that the block of an edge binds to a name
abbrev pub bound_in : BlocksModel → (edge : ℕ) → (name : List ℕ) → Option (List ℕ)
bound_in blocks edge name = option_and_then (lookup (λ e. edge == e)) (lookup (bytes_eq name) blocks.values)

-- the names that the block of an edge binds, without duplicates, in the order in which they were first bound
abbrev pub names_in : BlocksModel → (edge : ℕ) → List (List ℕ)
names_in blocks edge = slice_index_or blocks.names edge []
