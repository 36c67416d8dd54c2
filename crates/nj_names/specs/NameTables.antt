-- Names in a list, without duplicates. The number of a name is its place.
use Rattle.std.specs.Prelude.{ℕ, Bool, unwrap_or, List, [], ◌∷◌, ◌++◌, slice_get, bytes_eq, if◌then◌else◌}
use Rattle.std.specs.List.{list_any}

-- whether a name is one of the given names
abbrev pub is_among : List (List ℕ) → (name : List ℕ) → Bool
is_among names name = list_any (bytes_eq name) names

-- the names with one name added: at the end, unless it is among them
abbrev pub with_name : (names : List (List ℕ)) → (name : List ℕ) → List (List ℕ)
with_name names name = if is_among names name then names else names ++ name ∷ []

-- the name with the given number
abbrev pub name_at : (names : List (List ℕ)) → (number : ℕ) → List ℕ
name_at names number = unwrap_or (slice_get names number) []
