-- How the code reads a number. Nothing here has to be believed.
use Rattle.std.specs.Prelude.{ℕ, ◌==◌, ◌&&◌, Bool, false, not, Option, Some, None, List, [], ◌∷◌}
use Rattle.std.specs.List.{slice_split}

-- the bytes begin with neither a sign nor a leading zero
abbrev pub has_plain_front : List ℕ → Bool
has_plain_front [] = false
has_plain_front (digit ∷ []) = not (digit == 43)
has_plain_front (digit ∷ next ∷ digits) = not (digit == 43) && not (digit == 48)

abbrev pub is_dot : ℕ → Bool
is_dot b = b == 46

-- the parts of the rest of a text
abbrev pub parts_left : Option (List ℕ) → List (List ℕ)
parts_left None = []
parts_left (Some text) = slice_split is_dot text
