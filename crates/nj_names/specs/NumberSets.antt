-- Sets of numbers.
use Rattle.std.specs.Prelude.{ℕ, Bool, List, [], ◌∷◌, ◌++◌, nat_eq, if◌then◌else◌}
use Rattle.std.specs.List.{list_any}

-- numbers below a limit, without duplicates, in the order in which they were added
pub record NumberSetModel : Type 0 where
  pub limit : ℕ
  pub numbers : List ℕ

-- whether a number is one of the given numbers
abbrev pub has : List ℕ → (number : ℕ) → Bool
has numbers number = list_any (nat_eq number) numbers

-- the numbers with one number added: at the end, unless it is among them
abbrev pub with_number : List ℕ → (number : ℕ) → List ℕ
with_number numbers number = if has numbers number then numbers else numbers ++ number ∷ []
