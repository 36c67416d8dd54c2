-- Tables of names.
use Rattle.std.specs.Prelude.{◌≡◌, ℕ, List, ◌++◌}
use Rattle.nj_names.specs.NameTables.{is_among}

-- two lists have the same names
abbrev pub SameNames : (names others : List (List ℕ)) → Type 0
SameNames names others = (name : List ℕ) → is_among names name ≡ is_among others name

-- the new names are the old names and more
abbrev pub HasMore : (old more new : List (List ℕ)) → Type 0
HasMore old more new = SameNames new (old ++ more)
