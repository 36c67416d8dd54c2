-- The edges that have something to do in a build, whether or not they are stale themselves.
use Rattle.std.specs.Prelude.{◌≡◌, ◌<◌, ◌↔◌, ℕ, Bool, true, false, not, ◌&&◌, ◌==◌, Option, None, List, length, slice_index_or}
use Rattle.nj_cycles.specs.Cycles.{Needs}
use Rattle.nj_edges.specs.Edges.{EdgePaths, edge_at, inputs_of}
use Rattle.nj_edges.specs.Needs.{makers_of_inputs}
use Rattle.nj_stale.specs.States.{State, is_stale}
use Rattle.nj_stale.specs.declared.reason.Reason.{Reason}

-- a phony edge without any input has nothing to do, even if its output is missing
abbrev pub is_idle : EdgePaths → Bool
is_idle e = e.is_phony && (length (inputs_of e) == 0)

-- the edge has something to do itself
abbrev pub is_working : List EdgePaths → State → (edge : ℕ) → Bool
is_working edges s edge = is_stale s edge && not (is_idle (edge_at edges edge))

-- the edge has something to do, or waits for an edge that has: one that makes an input of any kind
pub data HasWork (edges : List EdgePaths) (s : State) : (edge : ℕ) → Type 0 where
  by_itself : {edge : ℕ} → is_working edges s edge ≡ true → HasWork edges s edge
  by_input : {edge maker : ℕ} → Needs (makers_of_inputs edges) edge maker → HasWork edges s maker → HasWork edges s edge

-- each edge has the reason that it has in the state of the build
abbrev pub HasReasons : List EdgePaths → State → (reasons : List (Option Reason)) → Type 0
HasReasons edges s reasons = (edge : ℕ) → edge < length edges → slice_index_or reasons edge None ≡ s.reason edge

-- for each edge whether it has work
pub record AreWorkFlags (edges : List EdgePaths) (reasons : List (Option Reason)) (flags : List Bool) : Type 0 where
  pub flag_count : length flags ≡ length edges
  pub are : (s : State) → HasReasons edges s reasons → (edge : ℕ) → edge < length edges
      → (slice_index_or flags edge false ≡ true) ↔ HasWork edges s edge
