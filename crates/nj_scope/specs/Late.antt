-- Values that are kept as they were written, to be expanded when they are used: the text of a value.
use Rattle.std.specs.Prelude.{ℕ, List, codes, ◌++◌}
use Rattle.std.specs.List.{flat_map}
use Rattle.nj_text.specs.Words.{PartModel, Text, Name}

-- a part as it could be written in a file: a name in braces
abbrev pub part_written : PartModel → List ℕ
part_written (Text bytes) = bytes
part_written (Name name) = codes "${" ++ name ++ codes "}"

-- an escape is written as the byte that it stands for
abbrev pub parts_written : List PartModel → List ℕ
parts_written parts = flat_map part_written parts
