use Rattle.std.proofs.Common.{ℕ, List, take}
use Rattle.nj_edges.specs.Inside.UsersHeld.{ArePlaced, HaveCapacity, plus_uses}
use Rattle.nj_edges.proofs.users.place_uses.Given as goal

abbrev pub invariant-files : goal.invariant-files
invariant-files l = (all uses : ℕ → List ℕ) → ArePlaced all uses l.fn.places l.fn.marks l.fn.edges
    → HaveCapacity all (plus_uses l.files l.edge uses)
    → ArePlaced all (plus_uses (take l.file-index l.files) l.edge uses) l.places l.marks l.edges
