-- How the quotes of paths are held while they are sorted.
use Rattle.std.specs.Prelude.{ℕ, Bool, true, nat_le, List, [], ◌∷◌, ◌++◌, map}
use Rattle.nj_tools.specs.declared.sorted_paths.Quotes.{Quotes}

-- whether a quote comes before all paths that begin with a byte after `'`
abbrev pub precedes_plain : List ℕ → Bool
precedes_plain [] = true
precedes_plain (byte ∷ bytes) = nat_le byte 39

-- the paths in quotes, and then the others
abbrev pub quote_strings : Quotes → List (List ℕ)
quote_strings quotes = map (λ text. text.items) quotes.quoted.items ++ map (λ path. path.now) quotes.plain.items
