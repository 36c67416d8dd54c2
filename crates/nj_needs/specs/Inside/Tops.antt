-- A look at a place: the row in which it is, and the count of turns; and the last open edge.
use Rattle.std.specs.Prelude.{◌≡◌, ℕ, ◌+◌, Option, MatchOption, List, [], ◌∷◌, ◌++◌}
use Rattle.nj_needs.specs.declared.frame.Frame.{Frame}
use Rattle.std.specs.Prelude.{Some, None}
use Rattle.nj_names.specs.declared.files.FileNo.{FileNo}
use Rattle.nj_edges.specs.declared.edges.EdgeNo.{EdgeNo}
use Rattle.nj_edges.specs.EdgeGraphs.{EdgeGraph}
use Rattle.nj_needs.specs.Counts.{saturated}
use Rattle.nj_needs.specs.Graphs.{row_of, makers_of}

-- the count after one more turn
abbrev pub counted : ℕ → ℕ
counted n = saturated (n + 1)

-- the row of an edge, or the row of the targets
abbrev pub row_in : EdgeGraph → (targets : List FileNo) → (edge : Option EdgeNo) → List (Option ℕ)
row_in g targets None = row_of g targets
row_in g targets (Some e) = makers_of g e.0

abbrev pub IsTop : List Frame → Option EdgeNo → Type 0
IsTop path edge = MatchOption edge (path ≡ []) (λ e. (front : List Frame) × (f : Frame) × (path ≡ front ++ f ∷ []) × (f.edge ≡ e))
