-- The users of edges, inside the check. Readers of the public contracts do not need this file.
use Rattle.std.specs.Prelude.{◌≡◌, ℕ, ◌<◌, List, Option, None, Some, [], ◌∷◌, ◌++◌, length, slice_get, slice_index_or, slice_set, map, Contains}
use Rattle.std.specs.Global.{Vec}
use Rattle.nj_cycles.specs.Cycles.{Needs}

abbrev pub lists_of : List (Vec ℕ) → List (List ℕ)
lists_of users = map (λ list. list.items) users

-- the users of an edge, where each edge has a list of them
abbrev pub users_of : List (Vec ℕ) → (edge : ℕ) → List ℕ
users_of users edge = slice_index_or (lists_of users) edge []

-- with a user added to an input's maker; a source has no maker
abbrev pub with_user : List (List ℕ) → (maker : Option ℕ) → (user : ℕ) → List (List ℕ)
with_user lists None user = lists
with_user lists (Some edge) user = slice_set lists edge (slice_index_or lists edge [] ++ user ∷ [])

-- the users of each edge m are those edges e with P e m
pub record HaveUsers (count : ℕ) (P : ℕ → ℕ → Type 0) (users : List (Vec ℕ)) : Type 0 where
  pub len : length users ≡ count
  pub sound : (m e : ℕ) → m < count → Contains (users_of users m) e → P e m
  pub all : (m e : ℕ) → m < count → P e m → Contains (users_of users m) e

-- edge e needs edge m by an input before the one at `index` of `edge`
pub data NeedsSoFar (makers : ℕ → List (Option ℕ)) (edge index : ℕ) : ℕ → ℕ → Type 0 where
  before : {e m : ℕ} → e < edge → Needs makers e m → NeedsSoFar makers edge index e m
  here : {m : ℕ} (i : ℕ) → i < index → slice_get (makers edge) i ≡ Some (Some m) → NeedsSoFar makers edge index edge m
