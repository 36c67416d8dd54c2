-- When two walks over needed commands are the same.
use Rattle.std.specs.Prelude.{◌≡◌, ℕ, Option, List}
use Rattle.nj_needs.specs.PageWalks.{written, left_after}
use Rattle.nj_needs.specs.Walks.{WalkState}

-- the same except for the turns that they took, and for the number of turns that they may take
pub record SameWalk (one other : WalkState) : Type 0 where
  pub graph : one.graph ≡ other.graph
  pub targets : one.targets ≡ other.targets
  pub mark : one.mark ≡ other.mark
  pub left : one.left ≡ other.left

-- a page with either room has the same of the remaining edges, and leaves the same
pub record SameRoom (edges : List ℕ) (one other : Option ℕ) : Type 0 where
  pub written : written one edges ≡ written other edges
  pub left : left_after one edges ≡ left_after other edges
