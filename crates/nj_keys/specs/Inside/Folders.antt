-- The directories of bases as they are stored, and how a text is read.
use Rattle.std.specs.Prelude.{ℕ, Bool, ◌&&◌, ◌||◌, not, List, map}
use Rattle.std.specs.Global.{Vec}
use Rattle.nj_text.specs.Paths.{is_slash}
use Rattle.nj_keys.specs.Bases.{is_separator}

abbrev pub paths : List (Vec ℕ) → List (List ℕ)
paths folders = map (λ folder. folder.items) folders

-- whether a path may begin after one more byte
abbrev pub may_begin_after : (may_begin : Bool) → (b : ℕ) → Bool
may_begin_after may_begin b = is_separator b || (may_begin && not (is_slash b))
