-- Which depths of pools are accepted ("Pools" in the Ninja manual).
use Rattle.std.specs.Prelude.{ℕ, Bool, false, nat_le, List}
use Rattle.std.specs.Option.{option_map_or}
use Rattle.nj_text.specs.Numbers.{leading_number_of}

-- the greatest depth of a pool: 2 ^ 31 - 1
abbrev pub greatest_depth : ℕ
greatest_depth = 2147483647

-- A depth begins with a digit, and the number of the digits at its front is not too great. The rest is ignored.
abbrev pub is_depth : List ℕ → Bool
is_depth text = option_map_or (λ n. nat_le n greatest_depth) (leading_number_of text) false
