-- How the edges that a change reaches are found.
use Rattle.std.specs.Prelude.{◌≡◌, ◌⊎◌, ℕ, ◌+◌, ◌<◌, ◌≤◌, Bool, true, false, List, length, slice_index, slice_index_or, sum_by, Contains}
use Rattle.nj_names.specs.NumberSets.{NumberSetModel}
pub use Rattle.nj_names.specs.Inside.NumbersHeld.{unflagged}
use Rattle.nj_edges.specs.Edges.{EdgePaths, edge_at, outputs_of}
use Rattle.nj_edges.specs.Changes.{IsAffected, has_input_of}

abbrev pub IsFlagged : List Bool → (edge : ℕ) → Type 0
IsFlagged flags edge = slice_index_or flags edge false ≡ true

-- the numbers are the numbers of the edges with a flag, without duplicates
pub record AreListed (flags : List Bool) (numbers : List ℕ) : Type 0 where
  pub listed : (e : ℕ) → IsFlagged flags e → Contains numbers e
  pub flagged : (i : ℕ) → i < length numbers → IsFlagged flags (slice_index numbers i)
  pub once : sum_by unflagged flags + length numbers ≡ length flags

-- besides the edges found before, exactly the edges with P were found
pub record FindsMore (P : ℕ → Type 0) (old new : NumberSetModel) : Type 0 where
  pub limit : new.limit ≡ old.limit
  pub kept : (e : ℕ) → Contains old.numbers e → Contains new.numbers e
  pub all : (e : ℕ) → P e → Contains new.numbers e
  pub fresh : (e : ℕ) → Contains new.numbers e → Contains old.numbers e ⊎ P e
  pub longer : length old.numbers ≤ length new.numbers
  pub added : (i : ℕ) → length old.numbers ≤ i → i < length new.numbers
      → (Contains old.numbers (slice_index new.numbers i) → ⊥) × P (slice_index new.numbers i)
  pub stays : (i : ℕ) → i < length old.numbers → slice_index new.numbers i ≡ slice_index old.numbers i

-- the edge has one of the files as an input
abbrev pub HasInputOf : List EdgePaths → (files : List (List ℕ)) → (edge : ℕ) → Type 0
HasInputOf edges files e = has_input_of files (edge_at edges e) ≡ true

-- between two turns: the edges found are affected; and they include the users of the files, and the users of the outputs of each edge
-- before a place in the list
pub record FindsAffected (edges : List EdgePaths) (files : List (List ℕ)) (found : NumberSetModel) (place : ℕ) : Type 0 where
  pub limit : found.limit ≡ length edges
  pub within : place ≤ length found.numbers
  pub sound : (e : ℕ) → Contains found.numbers e → IsAffected edges files e
  pub begun : (e : ℕ) → HasInputOf edges files e → Contains found.numbers e
  pub closed : (i e : ℕ) → i < place → HasInputOf edges (outputs_of (edge_at edges (slice_index found.numbers i))) e
      → Contains found.numbers e
