use Rattle.std.proofs.Common.{◌≡◌, ◌+◌, ◌<◌, ◌≤◌, ℕ, List, slice_index_or}
use Rattle.nj_edges.specs.Inside.UsersHeld.{AreCounts, users_before}
use Rattle.nj_edges.proofs.users.add_up.Given as goal

abbrev pub invariant-counts : goal.invariant-counts
invariant-counts l = record {
  sum : (uses : ℕ → List ℕ) → AreCounts l.fn.counts uses → l.sum ≡ users_before uses l.count-index;
  ends : (uses : ℕ → List ℕ) → AreCounts l.fn.counts uses → (n : ℕ) → n < l.count-index
      → slice_index_or l.counts n 0 ≡ users_before uses (n + 1);
  rest : (n : ℕ) → l.count-index ≤ n → slice_index_or l.counts n 0 ≡ slice_index_or l.fn.counts n 0;
}
