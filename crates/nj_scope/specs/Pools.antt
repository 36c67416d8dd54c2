-- The pools that were declared.
use Rattle.std.specs.Prelude.{ℕ, Bool, ◌||◌, List, codes, bytes_eq}
use Rattle.std.specs.List.{list_any}

-- whether there is a pool with the given name; `console` always exists
abbrev pub is_pool : List (List ℕ) → List ℕ → Bool
is_pool declared name = bytes_eq name (codes "console") || list_any (bytes_eq name) declared
