-- The edges that are to be built again where files changed.
use Rattle.std.specs.Prelude.{◌≡◌, ◌↔◌, ℕ, Bool, false, List, [], length, slice_index_or, Contains}
use Rattle.std.specs.List.{filter, range_with_len}
use Rattle.std.specs.List.Sorted.{IsStrictlyIncreasing}
use Rattle.nj_edges.specs.Dirty.{IsDirty}
use Rattle.nj_graph.specs.Graph.{GraphModel, edges_of}
use Rattle.nj_c.specs.declared.session_state.Kept.{Kept}
use Rattle.nj_c.specs.declared.status.Status.{Status}
use Rattle.nj_c.specs.Pages.{paths_of_files, AreRefused, ListsEdges}

-- the edges with a flag, of the first ones
abbrev pub flagged : (flags : List Bool) → (count : ℕ) → List ℕ
flagged flags count = filter (λ edge. slice_index_or flags edge false) (range_with_len 0 count)

-- the edges whose discovered inputs are not known
abbrev pub unknown_edges : Kept → GraphModel → List ℕ
unknown_edges kept g = flagged kept.unknown.items (length (edges_of g))

-- exactly the edges that are to be built again where the given files changed, by number, and no mark
abbrev pub AreDirty : Kept → (files : List ℕ) → GraphModel → (edges mark : List ℕ) → Type 0
AreDirty kept files g edges mark = IsStrictlyIncreasing edges
    × ((edge : ℕ) → Contains edges edge ↔ IsDirty (edges_of g) (paths_of_files g files) (unknown_edges kept g) edge) × (mark ≡ [])

-- they are listed, or a status says why not
abbrev pub ListsDirty : (before after : Kept) → (files : List ℕ) → Status → Type 0
ListsDirty before after files = ListsEdges before after files (AreDirty before files) (AreRefused before.graph files)
