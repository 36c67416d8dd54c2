-- The edges that targets need. A list of targets is a row of makers, as the inputs of an edge are: the edge that makes a
-- target, or None for a source.
use Rattle.std.specs.Prelude.{ℕ, ◌<◌, Option, Some, List, Contains}
use Rattle.nj_cycles.specs.Cycles.{Needs}

-- the edges without which the targets cannot be made
pub data Reached (makers : ℕ → List (Option ℕ)) (targets : List (Option ℕ)) : ℕ → Type 0 where
  target : {e : ℕ} → Contains targets (Some e) → Reached makers targets e
  needed : {e f : ℕ} → Reached makers targets e → Needs makers e f → Reached makers targets f

-- the targets' makers are edges
abbrev pub AreWithin : (targets : List (Option ℕ)) → (count : ℕ) → Type 0
AreWithin targets count = (e : ℕ) → Contains targets (Some e) → e < count
