-- The edges that have to be built again if files changed.
use Rattle.std.specs.Prelude.{◌≡◌, ℕ, Bool, true, false, List, Contains}
use Rattle.std.specs.List.{list_any}
use Rattle.nj_edges.specs.Edges.{EdgePaths, counted_inputs_of, edge_at, is_among, outputs_of}

-- whether an edge has one of the files as an explicit or implicit input
abbrev pub has_counted_input_of : (files : List (List ℕ)) → EdgePaths → Bool
has_counted_input_of files e = list_any (is_among (counted_inputs_of e)) files

-- whether an edge has one of the files as an output
abbrev pub has_output_of : (files : List (List ℕ)) → EdgePaths → Bool
has_output_of files e = list_any (is_among (outputs_of e)) files

-- If the files changed and some edges are dirty by themselves: an edge is dirty if it is one of those edges, if it has one of the files
-- as an output or as an explicit or implicit input, or if it has an output of a dirty edge as an explicit or implicit input. Order-only
-- inputs and validations do not count.
pub data IsDirty (edges : List EdgePaths) (files : List (List ℕ)) (dirty : List ℕ) : (edge : ℕ) → Type 0 where
  by_itself : {e : ℕ} → Contains dirty e → IsDirty edges files dirty e
  by_output : {e : ℕ} → has_output_of files (edge_at edges e) ≡ true → IsDirty edges files dirty e
  by_input : {e : ℕ} → has_counted_input_of files (edge_at edges e) ≡ true → IsDirty edges files dirty e
  by_edge : {e f : ℕ} → has_counted_input_of (outputs_of (edge_at edges f)) (edge_at edges e) ≡ true → IsDirty edges files dirty f
      → IsDirty edges files dirty e

-- an edge is not affected by the change
pub record IsUntouched (edges : List EdgePaths) (files : List (List ℕ)) (dirty : List ℕ) (edge : ℕ) : Type 0 where
  pub not_by_itself : ¬ Contains dirty edge
  pub outputs : has_output_of files (edge_at edges edge) ≡ false
  pub inputs : has_counted_input_of files (edge_at edges edge) ≡ false
  pub inputs_of_dirty : (f : ℕ) → IsDirty edges files dirty f
      → has_counted_input_of (outputs_of (edge_at edges f)) (edge_at edges edge) ≡ false

-- An edge that is not dirty is not dirty by itself, does not have any of the files as an output or as an explicit or implicit input,
-- and does not have an explicit or implicit input that a dirty edge makes.
abbrev pub OtherEdgesAreUntouched : Type 0
OtherEdgesAreUntouched = (edges : List EdgePaths) (files : List (List ℕ)) (dirty : List ℕ) (edge : ℕ)
    → ¬ IsDirty edges files dirty edge → IsUntouched edges files dirty edge
