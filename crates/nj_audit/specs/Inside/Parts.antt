-- How the parts of a word are taken one by one. Nothing here has to be believed.
use Rattle.std.specs.Prelude.{ℕ, Option, Some, None, List, []}
use Rattle.std.specs.List.{slice_split}
use Rattle.nj_audit.specs.WordNames.{is_sign}

-- the parts of a text that is left, if any
abbrev pub parts_left : (text : Option (List ℕ)) → List (List ℕ)
parts_left None = []
parts_left (Some text) = slice_split is_sign text
