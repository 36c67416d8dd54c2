-- The address of an open edge, and the edges done there.
use Rattle.std.proofs.Common.{◌≡◌, ℕ, ◌+◌, Option, Some, None, List, [], ◌∷◌, ◌++◌, get_or, take, refl, ap}
use Rattle.std.proofs.Common.{◌∙◌}
use Rattle.std.specs.Prelude.{slice_get}
use Rattle.std.proofs.lemmas.Option.{get_or_from_slice_get}
use Rattle.nj_needs.specs.Order.{made_by, unfolded_row}
use Rattle.nj_needs.specs.Marks.{edge_at, done}
use Rattle.nj_needs.specs.Inside.Paths.{IsLinked, done_at, places}
use Rattle.nj_needs.specs.declared.frame.Frame.{Frame}

module _ (makers : ℕ → List (Option ℕ)) (count : ℕ) where
  inputs-at : (row : List (Option ℕ)) (f : Frame) → slice_get row f.at ≡ Some (Some f.edge.0)
      → made_by makers (get_or row f.at None) ≡ makers f.edge.0
  inputs-at row f at = ap (made_by makers) (get_or_from_slice_get row f.at (Some f.edge.0) None at)

  -- the edges done at the address of an edge are those done once it is closed
  pub done-places : (row : List (Option ℕ)) (path : List Frame) (f : Frame)
      → IsLinked makers row (path ++ f ∷ [])
      → done makers count row (places (path ++ f ∷ [])) ≡ done_at makers count row path (f.at + 1)
  done-places row [] f h = refl
  done-places row (g ∷ []) f h =
      ap (λ (r : List (Option ℕ)). unfolded_row makers count (take g.at row)
      ++ done makers count r (f.at ∷ [])) (inputs-at row g h.0)
  done-places row (g ∷ k ∷ path) f h =
      ap (λ (r : List (Option ℕ)). unfolded_row makers count (take g.at row)
      ++ done makers count r (places (k ∷ path ++ f ∷ []))) (inputs-at row g h.0)
      ∙ ap (λ (us : List ℕ). unfolded_row makers count (take g.at row) ++ us)
      (done-places (makers g.edge.0) (k ∷ path) f h.1)

  pub edge_at-places : (row : List (Option ℕ)) (path : List Frame) (f : Frame)
      → IsLinked makers row (path ++ f ∷ []) → edge_at makers row (places (path ++ f ∷ [])) ≡ Some f.edge.0
  edge_at-places row [] f h = get_or_from_slice_get row f.at (Some f.edge.0) None h.0
  edge_at-places row (g ∷ []) f h = ap (λ (r : List (Option ℕ)). edge_at makers r (f.at ∷ []))
      (inputs-at row g h.0) ∙ edge_at-places (makers g.edge.0) [] f h.1
  edge_at-places row (g ∷ k ∷ path) f h =
      ap (λ (r : List (Option ℕ)). edge_at makers r (places (k ∷ path ++ f ∷ []))) (inputs-at row g h.0)
      ∙ edge_at-places (makers g.edge.0) (k ∷ path) f h.1
