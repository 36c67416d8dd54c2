-- The numbers of a command line.
use Rattle.std.specs.Prelude.{ℕ, ◌&&◌, Bool, not, nat_le, if◌then◌else◌, Option, Some, None, List}
use Rattle.std.specs.Str.{all_ascii_digits}
use Rattle.std.specs.Str.Parse.{digits_value}
use Rattle.nj_text.specs.Calls.{is_empty}

-- one or more digits, and nothing else
abbrev pub is_digits : List ℕ → Bool
is_digits text = not (is_empty text) && all_ascii_digits text

-- the number that decimal digits denote, with or without leading zeros, up to a maximum
abbrev pub given_up_to : (greatest : ℕ) → List ℕ → Option ℕ
given_up_to greatest text = if is_digits text && nat_le (digits_value 10 text) greatest then Some (digits_value 10 text) else None

-- up to the greatest number of 64 bits
abbrev pub given_number : List ℕ → Option ℕ
given_number = given_up_to 18446744073709551615

-- up to the greatest number of levels that Ninja reads
abbrev pub given_depth : List ℕ → Option ℕ
given_depth = given_up_to 2147483647
