-- The slowest edges of a build.
use Rattle.std.specs.Prelude.{◌≡◌, ℕ, Option, List, take}
use Rattle.std.specs.List.Sorted.{IsPermutation, IsSorted}
use Rattle.std.specs.Ordering.{nat_cmp, ordering_then}
use Rattle.std.specs.declared.cmp.Ordering.{Ordering}
use Rattle.nj_times.specs.Times.{time_at}

-- edges are compared by their times, the greater time first, and then by their numbers
abbrev pub slowest_first : (durations : List (Option ℕ)) → (edge other : ℕ) → Ordering
slowest_first durations edge other =
    ordering_then (nat_cmp (time_at durations other) (time_at durations edge)) (nat_cmp edge other)

-- the slowest of the edges are the first ones after they are sorted
pub record AreSlowest (durations : List (Option ℕ)) (edges : List ℕ) (count : ℕ) (slowest : List ℕ) : Type 0 where
  pub sorted : List ℕ
  pub permuted : IsPermutation edges sorted
  pub falling : IsSorted (slowest_first durations) sorted
  pub front : slowest ≡ take count sorted
