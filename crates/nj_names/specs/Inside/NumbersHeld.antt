-- How a set of numbers is held: by a flag for each number below its limit, and a list.
use Rattle.std.specs.Prelude.{◌≡◌, ℕ, ◌+◌, ◌<◌, Bool, true, false, List, length, slice_index_or, sum_by, nat_eq, All}
use Rattle.std.specs.List.{IsDistinct}
use Rattle.nj_names.specs.NumberSets.{has}

abbrev pub unflagged : Bool → ℕ
unflagged true = 0
unflagged false = 1

-- a flag is set exactly if its number is in the list
pub record AreFlagged (flags : List Bool) (numbers : List ℕ) : Type 0 where
  pub tell : (number : ℕ) → slice_index_or flags number false ≡ has numbers number
  pub below : All (λ number. number < length flags) numbers
  pub distinct : IsDistinct nat_eq numbers
  pub as_many : sum_by unflagged flags + length numbers ≡ length flags
