use Rattle.std.proofs.Common.{◌≡◌, ℕ, ◌<◌, ◌+◌, List, Option, ◌∷◌, length, sum_by, vec_len}
use Rattle.std.specs.Prelude.{Contains}
use Rattle.nj_cycles.specs.Cycles.{Needs}
use Rattle.nj_cycles.specs.Inside.Marks.{unmarked, AreMarks}
use Rattle.nj_cycles.specs.Inside.Users.{HaveUsers}
use Rattle.nj_cycles.proofs.Marking.{Marking}
use Rattle.nj_cycles.proofs.on_cycle.Marks.mark_needing.Given as goal

abbrev pub invariant-pending : goal.invariant-pending
invariant-pending l = record {
  len : vec_len l.self.flags ≡ length l.users;
  inside : (e : ℕ) → Contains l.self.pending.items e → e < length l.users;
  marking : (makers : ℕ → List (Option ℕ)) (edges : List ℕ)
      → HaveUsers (length l.users) (Needs makers) l.users
      → AreMarks makers edges l.fn.self.flags.items
      → Marking makers (l.edge ∷ edges) l.self.flags.items l.self.pending.items;
}

abbrev pub decreases-pending : goal.decreases-pending
decreases-pending l = sum_by unmarked l.self.flags.items + length l.self.pending.items
