-- Numbers under names.
use Rattle.std.specs.Prelude.{◌≡◌, ◌⊎◌, ℕ, ◌<◌, true, if◌then◌else◌, List, [], ◌∷◌, bytes_eq, slice_index_or, slice_set, Contains}
use Rattle.nj_names.specs.NameTables.{is_among}

-- names without duplicates, and beside each the numbers under it
pub record NumbersModel : Type 0 where
  pub names : List (List ℕ)
  pub rows : List (List ℕ)

-- the row at a place
abbrev pub row_at : (rows : List (List ℕ)) → (place : ℕ) → List ℕ
row_at rows place = slice_index_or rows place []

-- the rows with another row at a place
abbrev pub set_row : (rows : List (List ℕ)) → (place : ℕ) → (row : List ℕ) → List (List ℕ)
set_row rows place row = slice_set rows place row

-- the row beside a name
abbrev pub row_beside : (names : List (List ℕ)) → (rows : List (List ℕ)) → (name : List ℕ) → List ℕ
row_beside [] rows name = []
row_beside (n ∷ names) [] name = []
row_beside (n ∷ names) (row ∷ rows) name = if bytes_eq name n then row else row_beside names rows name

-- the numbers under a name
abbrev pub numbers_at : NumbersModel → (name : List ℕ) → List ℕ
numbers_at m name = row_beside m.names m.rows name

-- a number is under a name
abbrev pub HasNumber : NumbersModel → (name : List ℕ) → (number : ℕ) → Type 0
HasNumber m name number = Contains (numbers_at m name) number

-- all numbers are below a limit
abbrev pub AreBelow : (limit : ℕ) → NumbersModel → Type 0
AreBelow limit m = (name : List ℕ) (number : ℕ) → HasNumber m name number → number < limit

-- a number came under each of the given names
pub record AddsNumber (names : List (List ℕ)) (number : ℕ) (old new : NumbersModel) : Type 0 where
  pub kept : (name : List ℕ) (n : ℕ) → HasNumber old name n → HasNumber new name n
  pub added : (name : List ℕ) → is_among names name ≡ true → HasNumber new name number
  pub fresh : (name : List ℕ) (n : ℕ) → HasNumber new name n
      → HasNumber old name n ⊎ ((n ≡ number) × (is_among names name ≡ true))
