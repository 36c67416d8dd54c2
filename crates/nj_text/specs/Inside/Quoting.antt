-- How the code writes a shell quote: run by run. Nothing here has to be believed.
use Rattle.std.specs.Prelude.{ℕ, Option, Some, None, List, [], ◌∷◌}
use Rattle.std.specs.List.{flat_map}
use Rattle.nj_text.specs.Quotes.{within_quotes}

-- the rest of a path, as written in quotes
abbrev pub left_in_quotes : Option (List ℕ) → List ℕ
left_in_quotes None = []
left_in_quotes (Some text) = flat_map within_quotes text

-- the text after a run of other bytes: a `'` and the rest after it, or nothing
abbrev pub after_run : Option (List ℕ) → List ℕ
after_run None = []
after_run (Some text) = 39 ∷ 92 ∷ 39 ∷ 39 ∷ flat_map within_quotes text
