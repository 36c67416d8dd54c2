-- The edges that a change of files affects.
use Rattle.std.specs.Prelude.{◌≡◌, ◌⊎◌, ◌↔◌, ℕ, Bool, true, List, bytes_eq}
use Rattle.std.specs.List.{list_any, flat_map, IsDistinct}
use Rattle.nj_cycles.specs.Cycles.{NeedsByChain}
use Rattle.nj_edges.specs.Edges.{EdgePaths, edge_at, outputs_of, inputs_of, is_among}
use Rattle.nj_edges.specs.Needs.{makers_of_inputs}

-- whether an edge has one of the files as an input of any kind
abbrev pub has_input_of : (files : List (List ℕ)) → EdgePaths → Bool
has_input_of files e = list_any (is_among (inputs_of e)) files

-- An edge is affected by files if it has one of them as an input, or an output of an affected edge as an input.
pub data IsAffected (edges : List EdgePaths) (files : List (List ℕ)) : (edge : ℕ) → Type 0 where
  by_file : {e : ℕ} → has_input_of files (edge_at edges e) ≡ true → IsAffected edges files e
  by_edge : {e f : ℕ} → has_input_of (outputs_of (edge_at edges f)) (edge_at edges e) ≡ true → IsAffected edges files f
      → IsAffected edges files e

-- f is e, or e needs f by a chain
abbrev pub IsOrNeeds : List EdgePaths → (e f : ℕ) → Type 0
IsOrNeeds edges e f = (e ≡ f) ⊎ NeedsByChain (makers_of_inputs edges) e f

-- If no file has two makers, an edge is affected by files exactly if the edge itself, or an edge that it needs through any chain,
-- has one of the files as an input.
abbrev pub AffectedEdgesNeedTheFiles : Type 0
AffectedEdgesNeedTheFiles = (edges : List EdgePaths) (files : List (List ℕ)) → IsDistinct bytes_eq (flat_map outputs_of edges)
    → (e : ℕ) → IsAffected edges files e ↔ ((f : ℕ) × IsOrNeeds edges e f × (has_input_of files (edge_at edges f) ≡ true))
