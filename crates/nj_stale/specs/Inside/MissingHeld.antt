-- Missing sources by the numbers of files, and numbers as flags.
use Rattle.std.specs.Prelude.{◌≡◌, ◌<◌, ◌↔◌, ℕ, Bool, true, false, not, ◌&&◌, ◌==◌, if◌then◌else◌, Option, None, Some, is_some, List, length}
use Rattle.std.specs.Prelude.{Contains, slice_index, slice_index_or}
use Rattle.nj_names.specs.Files.{path_at}
use Rattle.nj_names.specs.declared.files.FileNo.{FileNo}
use Rattle.nj_edges.specs.EdgeGraphs.{EdgeGraph}
use Rattle.nj_edges.specs.Edges.{edge_at, inputs_of, maker_of}
use Rattle.nj_stale.specs.Missing.{first_lost}
use Rattle.nj_stale.specs.States.{Evidence}
use Rattle.nj_stale.specs.declared.missing.MissingSource.{MissingSource}
use Rattle.nj_stale.specs.declared.missing.MissingSource.TheVariants.{Target, Input}

abbrev pub lost_held : EdgeGraph → (times : List ℕ) → (stated : List Bool) → FileNo → Bool
lost_held g times stated file =
    not (is_some (maker_of g.edges (path_at g.files file))) && ((slice_index times file.0 == 0) && slice_index_or stated file.0 false)

-- an edge has both flags
abbrev pub has_both : (works needed : List Bool) → (edge : ℕ) → Bool
has_both works needed edge = slice_index_or works edge false && slice_index_or needed edge false

-- the first missing source among the inputs of an edge with both flags
abbrev pub stop_path : Evidence → (is_stated : List ℕ → Bool) → (works needed : List Bool) → (edge : ℕ) → Option (List ℕ)
stop_path known is_stated works needed edge =
    if has_both works needed edge then first_lost known is_stated (inputs_of (edge_at known.edges edge)) else None

-- the first number below the count for which there is a path
abbrev pub IsFirstInput : (files : List (List ℕ)) → (stop : ℕ → Option (List ℕ)) → (count : ℕ) → Option MissingSource → Type 0
IsFirstInput files stop count None = (edge : ℕ) → edge < count → stop edge ≡ None
IsFirstInput files stop count (Some (Target file)) = ⊥
IsFirstInput files stop count (Some (Input edge file)) = (edge.0 < count) × (stop edge.0 ≡ Some (path_at files file))
    × ((lower : ℕ) → lower < edge.0 → stop lower ≡ None)

-- the flags of the given numbers are set
pub record AreFlags (count : ℕ) (numbers : List ℕ) (flags : List Bool) : Type 0 where
  pub flag_count : length flags ≡ count
  pub are : (n : ℕ) → n < count → (slice_index_or flags n false ≡ true) ↔ Contains numbers n
