-- The text of a page besides its lines.
use Rattle.std.specs.Prelude.{ℕ, Option, Some, None, List, [], ◌∷◌, ◌++◌, codes}
use Rattle.nj_needs.specs.MarkTexts.{mark_text}

-- the line that names the mark of the rest; empty where nothing is left
abbrev pub mark_line : Option (List ℕ) → List ℕ
mark_line None = []
mark_line (Some mark) = codes "mark " ++ mark_text mark ++ 10 ∷ []
