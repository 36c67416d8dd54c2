-- The marks of edges, inside the check: an edge is marked if it needs an edge that had its turn. Readers of the public
-- contracts do not need this file.
use Rattle.std.specs.Prelude.{◌≡◌, ◌⊎◌, ℕ, ◌+◌, ◌≤◌, Bool, true, false, List, Option, None, Some, length, slice_index_or, sum_by, Contains}
use Rattle.nj_cycles.specs.declared.on_cycle.Marks.{Marks}
use Rattle.nj_cycles.specs.Cycles.{Needs, NeedsByChain, IsOnCycle}

abbrev pub IsMarked : List Bool → ℕ → Type 0
IsMarked flags e = slice_index_or flags e false ≡ true

abbrev pub unmarked : Bool → ℕ
unmarked true = 0
unmarked false = 1

-- edge e needs one of the given edges by a chain
abbrev pub LeadsInto : (makers : ℕ → List (Option ℕ)) → List ℕ → ℕ → Type 0
LeadsInto makers edges e = (f : ℕ) × Contains edges f × NeedsByChain makers e f

-- the marked edges are those that need one of the given edges by a chain
pub record AreMarks (makers : ℕ → List (Option ℕ)) (edges : List ℕ) (flags : List Bool) : Type 0 where
  pub sound : (e : ℕ) → IsMarked flags e → LeadsInto makers edges e
  pub closed : (e f : ℕ) → Needs makers e f → Contains edges f ⊎ IsMarked flags f → IsMarked flags e

-- some edges with P were marked, and are pending
pub record MarksMore (P : ℕ → Type 0) (old new : Marks) : Type 0 where
  pub len : length new.flags.items ≡ length old.flags.items
  pub kept : (e : ℕ) → IsMarked old.flags.items e → IsMarked new.flags.items e
  pub fresh : (e : ℕ) → IsMarked new.flags.items e → IsMarked old.flags.items e ⊎ (P e × Contains new.pending.items e)
  pub pending_kept : (e : ℕ) → Contains old.pending.items e → Contains new.pending.items e
  pub pending_fresh : (e : ℕ) → Contains new.pending.items e → Contains old.pending.items e ⊎ P e
  pub turns : sum_by unmarked new.flags.items + length new.pending.items
      ≡ sum_by unmarked old.flags.items + length old.pending.items

-- the least of the given edges that lies on a cycle
abbrev pub IsLeastOf : (makers : ℕ → List (Option ℕ)) → List ℕ → Option ℕ → Type 0
IsLeastOf makers edges None = (e : ℕ) → Contains edges e → ¬ IsOnCycle makers e
IsLeastOf makers edges (Some least) =
    IsOnCycle makers least × ((e : ℕ) → Contains edges e → IsOnCycle makers e → least ≤ e)
