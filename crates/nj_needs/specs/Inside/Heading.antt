-- The way to a place of the walk.
use Rattle.std.specs.Prelude.{◌≡◌, ◌<◌, ◌≤◌, ℕ, List, [], ◌∷◌, ◌++◌}
use Rattle.nj_needs.specs.declared.frame.Frame.{Frame}

-- above the row for which the walk is heading, the first edge is before the goal; or the walk is in that row, and not past the goal
abbrev pub IsAhead : (more : List Frame) → (goal at : ℕ) → Type 0
IsAhead [] goal at = at ≤ goal
IsAhead (f ∷ more) goal at = f.at < goal

-- the walk is heading for a place of the row above the given open edges
pub record IsHeading (base : List Frame) (goal : ℕ) (path : List Frame) (place : ℕ) : Type 0 where
  pub more : List Frame
  pub is : path ≡ base ++ more
  pub ahead : IsAhead more goal place
