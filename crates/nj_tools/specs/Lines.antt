-- Lines of strings.
use Rattle.std.specs.Prelude.{ℕ, List, [], ◌∷◌, ◌++◌, flat_map}

-- a text and a line end
abbrev pub line : List ℕ → List ℕ
line text = text ++ 10 ∷ []

-- each text as a line
abbrev pub lines : List (List ℕ) → List ℕ
lines strings = flat_map line strings

-- each path as a line, after the same beginning
abbrev pub lines_after : (beginning : List ℕ) → (paths : List (List ℕ)) → List ℕ
lines_after beginning paths = flat_map (λ path. line (beginning ++ path)) paths
