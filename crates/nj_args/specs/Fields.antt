-- The values of a command line's arguments, as `clap` reads them: rows of values, each under the text of its option.
use Rattle.std.specs.Prelude.{ℕ, Bool, false, if◌then◌else◌, List, [], codes, Option, Some, None, unwrap_or}
use Rattle.std.specs.Option.{option_map_or}
use Rattle.std.specs.Str.{bytes_eq}
use Rattle.clap.specs.Words.{Row, all_of, fault_of, first_of, matches_of}
use Rattle.clap.specs.Walk.{is_empty}
use Rattle.nj_args.specs.CommandLine.{command}

-- an option without a value is given if its text is `true`
abbrev pub is_on : (option : List ℕ) → List Row → Bool
is_on option rows = option_map_or (λ text. bytes_eq text (codes "true")) (first_of option rows) false

-- the arguments that are not options
abbrev pub words_in : List Row → List (List ℕ)
words_in rows = unwrap_or (all_of (codes "words") rows) []

-- the rows of the arguments, unless `clap` refuses them for a cause other than memory
abbrev pub given_rows : (words : List (List ℕ)) → Option (List Row)
given_rows words = if is_empty (fault_of command words) then Some (matches_of command words) else None
