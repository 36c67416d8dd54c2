-- The missing sources at which a build stops: those that Ninja calls missing and without a known rule to make them.
use Rattle.std.specs.Prelude.{◌≡◌, ◌<◌, ℕ, Bool, false, not, ◌&&◌, Option, None, Some, is_some, List, find, length, slice_index_or}
use Rattle.nj_names.specs.Files.{path_at}
use Rattle.nj_names.specs.declared.files.FileNo.{FileNo}
use Rattle.nj_edges.specs.Distances.{IsNeeded}
use Rattle.nj_edges.specs.Edges.{edge_at, inputs_of, maker_of}
use Rattle.nj_stale.specs.States.{Evidence, State, is_missing}
use Rattle.nj_stale.specs.Work.{HasWork}
use Rattle.nj_stale.specs.declared.missing.MissingSource.{MissingSource}
use Rattle.nj_stale.specs.declared.missing.MissingSource.TheVariants.{Target, Input}

-- a missing source that the manifest itself names; a source that builds discovered and that is missing makes its edges stale
abbrev pub is_lost : Evidence → (is_stated : List ℕ → Bool) → (path : List ℕ) → Bool
is_lost known is_stated path = not (is_some (maker_of known.edges path)) && (is_missing known path && is_stated path)

-- the first of the given files that is one
abbrev pub first_lost : Evidence → (is_stated : List ℕ → Bool) → (paths : List (List ℕ)) → Option (List ℕ)
first_lost known is_stated paths = find (is_lost known is_stated) paths

-- The edge stops a build of the targets: they need it, it has something to do, and the file is the first missing source among its inputs,
-- of all kinds.
pub record Stops (known : Evidence) (is_stated : List ℕ → Bool) (s : State) (targets : List (List ℕ)) (edge : ℕ) (path : List ℕ) : Type 0
  where
    pub within : edge < length known.edges
    pub needed : IsNeeded known.edges targets edge
    pub works : HasWork known.edges s edge
    pub first : first_lost known is_stated (inputs_of (edge_at known.edges edge)) ≡ Some path

-- of several edges that stop a build, the one with the lowest number
pub record StopsFirst (known : Evidence) (is_stated : List ℕ → Bool) (s : State) (targets : List (List ℕ)) (edge : ℕ) (path : List ℕ)
    : Type 0 where
  pub stops : Stops known is_stated s targets edge path
  pub first : (lower : ℕ) (other : List ℕ) → lower < edge → ¬ Stops known is_stated s targets lower other

-- what stops a build of the targets: the first target that is a missing source, or else the first edge that has one as an input
abbrev pub IsFirstMissing : (files : List (List ℕ)) → Evidence → (is_stated : List ℕ → Bool) → State → (targets : List (List ℕ))
    → Option MissingSource → Type 0
IsFirstMissing files known is_stated s targets None = (first_lost known is_stated targets ≡ None)
    × ((edge : ℕ) (path : List ℕ) → ¬ Stops known is_stated s targets edge path)
IsFirstMissing files known is_stated s targets (Some (Target file)) = first_lost known is_stated targets ≡ Some (path_at files file)
IsFirstMissing files known is_stated s targets (Some (Input edge file)) = (first_lost known is_stated targets ≡ None)
    × StopsFirst known is_stated s targets edge.0 (path_at files file)

-- for each file whether the manifest itself names it
abbrev pub AreStated : (files : List (List ℕ)) → (is_stated : List ℕ → Bool) → (flags : List Bool) → Type 0
AreStated files is_stated flags = (file : FileNo) → file.0 < length files
    → slice_index_or flags file.0 false ≡ is_stated (path_at files file)
