-- Numbers in a text, as C reads them on 64-bit Linux: by `atoi`, by `strtoll` in base ten, and by `strtoull` in base sixteen.
use Rattle.std.specs.Prelude.{ℕ, ◌-◌, ◌%◌, ◌^◌, min, Bool, ◌&&◌, ◌||◌, if◌then◌else◌, ◌==◌, nat_lt, nat_le, ℤ, pos, neg_ℤ, List, [], ◌∷◌, drop, take_while, slice_index}
use Rattle.std.specs.Char.{is_digit}
use Rattle.std.specs.Int.{w32, int_wrap}
use Rattle.std.specs.Str.Parse.{digits_value, starts_with_minus, without_leading_sign}

-- a blank: a space, tab, line feed, vertical tab, form feed or carriage return
abbrev pub is_blank : ℕ → Bool
is_blank byte = byte == 32 || (nat_le 9 byte && nat_le byte 13)

-- a text without the blanks at its front
abbrev pub without_blanks : List ℕ → List ℕ
without_blanks [] = []
without_blanks (byte ∷ text) = if is_blank byte then without_blanks text else byte ∷ text

-- the number that the digits at the front of a text write in a base; 0 without digits
abbrev pub leading_value : (base : ℕ) → List ℕ → ℕ
leading_value base text = digits_value base (take_while (λ byte. is_digit byte base) text)

-- `strtoll`: a sign and digits; a number that does not fit into 64 bits becomes the nearest number that does
abbrev pub long_of : List ℕ → ℤ
long_of text =
    let number = without_blanks text in
    let size = leading_value 10 (without_leading_sign number) in
    if starts_with_minus number then neg_ℤ (pos (min size (2 ^ 63))) else pos (min size (2 ^ 63 - 1))

-- `atoi`: the low 32 bits of that number
abbrev pub int_of : List ℕ → ℤ
int_of text = int_wrap w32 (long_of text)

-- a text begins with `0x` or `0X`
abbrev pub has_prefix : List ℕ → Bool
has_prefix text = slice_index text 0 == 48 && (slice_index text 1 == 120 || slice_index text 1 == 88)

-- a text without `0x` at its front
abbrev pub without_prefix : List ℕ → List ℕ
without_prefix text = if has_prefix text then drop 2 text else text

-- `strtoull`: a sign, `0x` and digits; a number that does not fit into 64 bits becomes the greatest that does, and a
-- number with a minus is subtracted from 2 ^ 64
abbrev pub hash_of : List ℕ → ℕ
hash_of text =
    let number = without_blanks text in
    let size = leading_value 16 (without_prefix (without_leading_sign number)) in
    if nat_lt size (2 ^ 64) then (if starts_with_minus number then (2 ^ 64 - size) % 2 ^ 64 else size) else 2 ^ 64 - 1
