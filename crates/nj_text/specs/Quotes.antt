-- The shell quote of a path.
use Rattle.std.specs.Prelude.{ℕ, ◌==◌, Bool, ◌||◌, if◌then◌else◌, List, [], ◌∷◌, ◌++◌}
use Rattle.std.specs.List.{list_all, flat_map}
use Rattle.nj_text.specs.Bytes.{is_letter, is_digit}

-- the bytes that a shell takes literally: letters, digits, and `_`, `+`, `-`, `.`, `/`
abbrev pub is_plain_byte : ℕ → Bool
is_plain_byte b = is_letter b || is_digit b || b == 95 || b == 43 || b == 45 || b == 46 || b == 47

-- a single quote
abbrev pub is_quote : ℕ → Bool
is_quote b = b == 39

-- a byte within quotes: a `'` ends the quotes, comes after a `\`, and opens them again
abbrev pub within_quotes : ℕ → List ℕ
within_quotes b = if is_quote b then 39 ∷ 92 ∷ 39 ∷ 39 ∷ [] else b ∷ []

-- a path within single quotes
abbrev pub in_quotes : List ℕ → List ℕ
in_quotes path = 39 ∷ (flat_map within_quotes path ++ 39 ∷ [])

-- a path of plain bytes alone stays unchanged, any other is put in single quotes
unfoldable pub quoted : List ℕ → List ℕ
quoted path = if list_all is_plain_byte path then path else in_quotes path
