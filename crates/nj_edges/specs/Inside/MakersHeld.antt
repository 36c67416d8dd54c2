-- How the makers of files are held: as numbers that are counted from 1.
use Rattle.std.specs.Prelude.{ℕ, zero, suc, Option, None, Some, List, map}

-- the edge with the given number; 0 is not an edge
abbrev pub maker_held : ℕ → Option ℕ
maker_held zero = None
maker_held (suc edge) = Some edge

abbrev pub makers_held : List ℕ → List (Option ℕ)
makers_held numbers = map maker_held numbers
