-- The texts that references stand for.
use Rattle.std.specs.Prelude.{ℕ, List, []}
use Rattle.std.specs.List.{flat_map}
use Rattle.nj_text.specs.Words.{PartModel, Text, Name}

-- the value of parts, where names have the given values
abbrev pub part_expanded : (value : List ℕ → List ℕ) → PartModel → List ℕ
part_expanded value (Text bytes) = bytes
part_expanded value (Name name) = value name

-- parts, each reference replaced by the value of its name
abbrev pub expanded : (value : List ℕ → List ℕ) → List PartModel → List ℕ
expanded value parts = flat_map (part_expanded value) parts

-- a dyndep file does not bind names, so that references in it are empty
abbrev pub no_values : List ℕ → List ℕ
no_values name = []
