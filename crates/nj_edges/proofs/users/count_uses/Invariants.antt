use Rattle.std.proofs.Common.{ℕ, List, take}
use Rattle.nj_edges.specs.Inside.UsersHeld.{AreCounted, plus_uses}
use Rattle.nj_edges.proofs.users.count_uses.Given as goal

abbrev pub invariant-files : goal.invariant-files
invariant-files l = (uses : ℕ → List ℕ) → AreCounted l.fn.counts l.fn.marks uses
    → AreCounted l.counts l.marks (plus_uses (take l.file-index l.files) l.edge uses)
