-- Numbers as flags.
use Rattle.std.specs.Prelude.{◌≡◌, ℕ, ◌<◌, Bool, false, List, ◌==◌, length, slice_index_or}
use Rattle.std.specs.List.{list_any}

-- for each number below the count whether it is among the given numbers
pub record AreFlags (count : ℕ) (numbers : List ℕ) (flags : List Bool) : Type 0 where
  pub count_is : length flags ≡ count
  pub are : (n : ℕ) → n < count → slice_index_or flags n false ≡ list_any (λ other. n == other) numbers
