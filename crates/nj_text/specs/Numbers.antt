-- The number at the front of a text, and the version that a text writes ("Version requirements" in the Ninja manual).
use Rattle.std.specs.Prelude.{ℕ, ◌==◌, min, Option, Some, None, List, [], ◌∷◌, take_while, unwrap_or}
use Rattle.std.specs.List.{before_first, after_first}
use Rattle.std.specs.Str.Parse.{digits_value}
use Rattle.nj_text.specs.Bytes.{is_digit}

-- the greatest number that is reported: 2 ^ 64 - 1
abbrev pub greatest : ℕ
greatest = 18446744073709551615

-- the number that digits write in base ten, or the greatest if it is greater than that; `None` if there are no digits
abbrev pub number_of : List ℕ → Option ℕ
number_of [] = None
number_of (digit ∷ digits) = Some (min (digits_value 10 (digit ∷ digits)) greatest)

-- the number that the digits at the front of the text write
abbrev pub leading_number_of : List ℕ → Option ℕ
leading_number_of text = number_of (take_while is_digit text)

-- a part of a version: the number at its front, or 0
abbrev pub version_part : List ℕ → ℕ
version_part text = unwrap_or (leading_number_of text) 0

-- major and minor: the parts before and after the first `.`
abbrev pub version_pair_of : List ℕ → ℕ × ℕ
version_pair_of text = (version_part (before_first (λ b. b == 46) text), version_part (after_first (λ b. b == 46) text))
