-- The values of a subcommand's options, as `clap` reads them: rows of values, each under the name of its option.
use Rattle.std.specs.Prelude.{ℕ, Bool, false, if◌then◌else◌, List, [], codes, Option, Some, None, unwrap_or, option_and_then}
use Rattle.std.specs.Option.{option_map_or}
use Rattle.std.specs.Str.{bytes_eq}
use Rattle.std.specs.Str.Parse.{digits_value, without_leading_plus}
use Rattle.clap.specs.Words.{Row, all_of, first_of}
use Rattle.clap.specs.ValueTests.{is_unsigned_in}

-- a flag is given if its text is `true`
abbrev pub is_on : (name : List ℕ) → List Row → Bool
is_on name rows = option_map_or (λ text. bytes_eq text (codes "true")) (first_of name rows) false

-- the value of an option, or a default
abbrev pub text_or : (name default : List ℕ) → List Row → List ℕ
text_or name default rows = unwrap_or (first_of name rows) default

-- the values of an option that may be repeated, or the words that are not options, in their order
abbrev pub values_in : (name : List ℕ) → List Row → List (List ℕ)
values_in name rows = unwrap_or (all_of name rows) []

-- The number of 64 bits that decimal digits denote, with or without leading zeros. `clap` accepts a plus sign before them.
abbrev pub given_number : List ℕ → Option ℕ
given_number text =
    if is_unsigned_in 0 18446744073709551615 text then Some (digits_value 10 (without_leading_plus text)) else None

-- the value of an option that is a number
abbrev pub number_in : (name : List ℕ) → List Row → Option ℕ
number_in name rows = option_and_then given_number (first_of name rows)
