-- Texts in the quotes of Graphviz, where a backslash begins an escape and an ampersand the name of a character.
use Rattle.std.specs.Prelude.{ℕ, ◌==◌, ◌||◌, if◌then◌else◌, List, [], ◌∷◌, ◌++◌, codes}
use Rattle.std.specs.List.{flat_map}
use Rattle.std.specs.Str.Lossy.{utf8_lossy}

-- a byte between quotes
abbrev pub escaped : ℕ → List ℕ
escaped byte = if byte == 38 then codes "&amp;" else (if byte == 34 || byte == 92 then 92 ∷ byte ∷ [] else byte ∷ [])

-- a text between quotes; U+FFFD replaces invalid UTF-8
abbrev pub escapes : List ℕ → List ℕ
escapes text = flat_map escaped (utf8_lossy text)

-- a text with its quotes
abbrev pub quoted : List ℕ → List ℕ
quoted text = 34 ∷ escapes text ++ 34 ∷ []
