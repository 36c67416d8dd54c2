-- How the pieces of a word are gathered.
use Rattle.std.specs.Prelude.{ℕ, List, [], ◌∷◌}

-- a text, unless it is empty
abbrev pub filled : List ℕ → List (List ℕ)
filled [] = []
filled (b ∷ text) = (b ∷ text) ∷ []
