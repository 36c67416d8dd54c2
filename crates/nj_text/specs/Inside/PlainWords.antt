-- Where plain words begin and end.
use Rattle.std.specs.Prelude.{ℕ, Bool, false, ◌||◌, ◌==◌, List, [], ◌∷◌}

-- a line feed, a colon or a bar comes next
abbrev pub no_word_begins : List ℕ → Bool
no_word_begins [] = false
no_word_begins (b ∷ bs) = b == 10 || b == 58 || b == 124

-- a space, a line feed, a colon or a bar comes next
abbrev pub word_ends : List ℕ → Bool
word_ends [] = false
word_ends (b ∷ bs) = b == 32 || b == 10 || b == 58 || b == 124
