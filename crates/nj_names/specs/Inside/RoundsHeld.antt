-- How a set of numbers that is emptied at once is held: by the mark of each number below its limit, and a list.
use Rattle.std.specs.Prelude.{◌≡◌, ℕ, ◌+◌, ◌<◌, ◌≤◌, if◌then◌else◌, List, length, slice_index_or, sum_by, nat_eq, All}
use Rattle.std.specs.List.{IsDistinct}
use Rattle.nj_names.specs.NumberSets.{has}

abbrev pub unmarked : (round mark : ℕ) → ℕ
unmarked round mark = if nat_eq mark round then 0 else 1

-- the mark of a number is that of the round if the number is in the list; no mark is of a later round
pub record AreMarked (marks : List ℕ) (round : ℕ) (numbers : List ℕ) : Type 0 where
  pub tell : (number : ℕ) → number < length marks → nat_eq (slice_index_or marks number 0) round ≡ has numbers number
  pub below : All (λ number. number < length marks) numbers
  pub distinct : IsDistinct nat_eq numbers
  pub earlier : (number : ℕ) → number < length marks → slice_index_or marks number 0 ≤ round
  pub as_many : sum_by (unmarked round) marks + length numbers ≡ length marks
