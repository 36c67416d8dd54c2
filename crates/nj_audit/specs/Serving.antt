-- Which edges commands depend on.
use Rattle.std.specs.Prelude.{◌≡◌, ◌<◌, ◌↔◌, ℕ, Bool, true, false, List, length, slice_index_or}
use Rattle.nj_cycles.specs.Cycles.{Needs}
use Rattle.nj_edges.specs.Edges.{EdgePaths, edge_at}
use Rattle.nj_edges.specs.Needs.{makers_of_inputs}

-- An edge serves a command if it has a command, or if it makes an input of an edge that serves a command.
pub data ServesCommand (edges : List EdgePaths) : (edge : ℕ) → Type 0 where
  by_itself : {e : ℕ} → e < length edges → (edge_at edges e).is_phony ≡ false → ServesCommand edges e
  by_edge : {e f : ℕ} → Needs (makers_of_inputs edges) e f → ServesCommand edges e → ServesCommand edges f

-- the flags are set at the edges that serve a command, and past the last flag no edge does
abbrev pub AreServing : List EdgePaths → (flags : List Bool) → Type 0
AreServing edges flags = (e : ℕ) → slice_index_or flags e false ≡ true ↔ ServesCommand edges e
