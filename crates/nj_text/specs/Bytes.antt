-- The classes of bytes that the lexical rules speak of, by their ASCII codes.
use Rattle.std.specs.Prelude.{ℕ, Bool, false, ◌&&◌, ◌||◌, not, nat_le, ◌==◌, cond, List, [], ◌∷◌}

-- a space
abbrev pub is_space : ℕ → Bool
is_space b = b == 32

-- a line feed
abbrev pub is_line_feed : ℕ → Bool
is_line_feed b = b == 10

-- an ASCII letter
abbrev pub is_letter : ℕ → Bool
is_letter b = (nat_le 97 b && nat_le b 122) || (nat_le 65 b && nat_le b 90)

-- an ASCII digit
abbrev pub is_digit : ℕ → Bool
is_digit b = nat_le 48 b && nat_le b 57

-- the bytes of a name after a bare `$`: letters, digits, `_` and `-`
abbrev pub is_name_byte : ℕ → Bool
is_name_byte b = is_letter b || is_digit b || b == 95 || b == 45

-- the bytes of an identifier, and of a name in `${}`: the bytes of a bare name, and `.`
abbrev pub is_identifier_byte : ℕ → Bool
is_identifier_byte b = is_name_byte b || b == 46

-- a byte that stands for itself after a `$`: a space, `:` or `$`
abbrev pub is_escapable : ℕ → Bool
is_escapable b = b == 32 || b == 58 || b == 36

-- the bytes that stand for themselves: all but `$`, the line feed, the carriage return and NUL
abbrev pub is_ordinary_byte : ℕ → Bool
is_ordinary_byte b = not (b == 36 || b == 10 || b == 13 || b == 0)

-- the ordinary bytes of words: all but the space, `:` and `|`
abbrev pub is_word_byte : ℕ → Bool
is_word_byte b = is_ordinary_byte b && not (b == 32 || b == 58 || b == 124)

-- the list without its longest prefix whose elements all pass the test
abbrev pub drop_while : {X : Type 0} → (X → Bool) → List X → List X
drop_while p [] = []
drop_while p (x ∷ xs) = cond (p x) (drop_while p xs) (x ∷ xs)

-- whether the list has a first element, and it passes the test
abbrev pub begins_with : {X : Type 0} → (X → Bool) → List X → Bool
begins_with p [] = false
begins_with p (x ∷ xs) = p x
