-- A list in reserved memory, as contracts see it.
use Rattle.std.specs.Prelude.{ℕ, List}

-- its items, and how many it may have
pub record Reserved (X : Type 0) : Type 0 where
  pub items : List X
  pub capacity : ℕ
