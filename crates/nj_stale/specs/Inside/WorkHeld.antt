-- Which edges have something to do, by the flags of edges before them.
use Rattle.std.specs.Prelude.{◌≡◌, ◌<◌, ◌↔◌, ◌||◌, ℕ, Bool, true, false, not, ◌&&◌, Option, None, Some, is_some, List, length, slice_index, slice_index_or}
use Rattle.std.specs.List.{list_any}
use Rattle.nj_edges.specs.Edges.{EdgePaths, edge_at}
use Rattle.nj_edges.specs.Needs.{makers_of_inputs}
use Rattle.nj_stale.specs.States.{State}
use Rattle.nj_stale.specs.Work.{HasReasons, HasWork, is_idle}
use Rattle.nj_stale.specs.declared.reason.Reason.{Reason}

-- the flag of a maker, if any
abbrev pub has_flag : (flags : List Bool) → (maker : Option ℕ) → Bool
has_flag flags None = false
has_flag flags (Some edge) = slice_index_or flags edge false

-- one of the makers of an edge's inputs has a flag
abbrev pub has_flagged_maker : List EdgePaths → (flags : List Bool) → (edge : ℕ) → Bool
has_flagged_maker edges flags edge = list_any (has_flag flags) (makers_of_inputs edges edge)

-- the edge has something to do by its reason
abbrev pub works_held : List EdgePaths → (reasons : List (Option Reason)) → (edge : ℕ) → Bool
works_held edges reasons edge = is_some (slice_index_or reasons edge None) && not (is_idle (edge_at edges edge))

-- the edge has work by its reason and by the flags of makers
abbrev pub work_held : List EdgePaths → (reasons : List (Option Reason)) → (flags : List Bool) → (edge : ℕ) → Bool
work_held edges reasons flags edge = works_held edges reasons edge || has_flagged_maker edges flags edge

-- the first edges of an order have their flags
pub record AreFlagged (edges : List EdgePaths) (reasons : List (Option Reason)) (order : List ℕ) (turn : ℕ) (flags : List Bool) : Type 0 where
  pub flag_count : length flags ≡ length edges
  pub are : (s : State) → HasReasons edges s reasons → (k : ℕ) → k < turn
      → (slice_index_or flags (slice_index order k) false ≡ true) ↔ HasWork edges s (slice_index order k)
