-- Marks and their written form. A mark is the numbers of an address; at the start of a walk it has no numbers.
use Rattle.std.specs.Prelude.{◌≡◌, ℕ, ◌==◌, ◌&&◌, Bool, false, not, nat_le, if◌then◌else◌, Option, Some, None, option_map, option_and_then, List, [], ◌∷◌, map, codes}
use Rattle.std.specs.Prelude.{decimal}
use Rattle.std.specs.List.{slice_split, join_with_byte}
use Rattle.std.specs.Char.{is_ascii_digit}
use Rattle.std.specs.Str.{bytes_eq, all_ascii_digits}
use Rattle.std.specs.Str.Parse.{digits_value}

-- the text of a mark: `start`, or its numbers, joined by `.`
abbrev pub mark_text : List ℕ → List ℕ
mark_text [] = codes "start"
mark_text (number ∷ numbers) = join_with_byte 46 (map decimal (number ∷ numbers))

-- digits without leading zeros
abbrev pub is_numeral : List ℕ → Bool
is_numeral [] = false
is_numeral (digit ∷ []) = is_ascii_digit digit
is_numeral (digit ∷ next ∷ digits) = not (digit == 48) && all_ascii_digits (digit ∷ next ∷ digits)

-- the number that a part of an address writes
abbrev pub number_of : List ℕ → Option ℕ
number_of part = if is_numeral part && nat_le (digits_value 10 part) 18446744073709551615 then Some (digits_value 10 part) else None

-- the numbers that all parts write
abbrev pub numbers_in : List (List ℕ) → Option (List ℕ)
numbers_in [] = Some []
numbers_in (part ∷ parts) = option_and_then (λ number. option_map (λ numbers. number ∷ numbers) (numbers_in parts)) (number_of part)

-- the numbers of the mark that a text denotes, if any
unfoldable pub given_mark : List ℕ → Option (List ℕ)
given_mark text = if bytes_eq text (codes "start") then Some [] else numbers_in (slice_split (λ b. b == 46) text)

-- the text of the mark denotes the mark
abbrev pub ReadsBack : (mark : List ℕ) → Type 0
ReadsBack mark = given_mark (mark_text mark) ≡ Some mark
