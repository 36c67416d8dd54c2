-- An address leads to an edge of the graph.
use Rattle.std.proofs.Common.{◌≡◌, ℕ, zero, suc, ◌<◌, Option, Some, None, List, [], ◌∷◌, inl, inr, arith}
use Rattle.std.specs.Prelude.{slice_index_or}
use Rattle.nj_cycles.specs.Cycles.{IsAcyclic, Needs}
use Rattle.nj_names.specs.declared.files.FileNo.{FileNo}
use Rattle.nj_edges.specs.EdgeGraphs.{EdgeGraph}
use Rattle.nj_needs.specs.Graphs.{row_of, makers_of, count_of}
use Rattle.nj_needs.specs.Order.{made_by}
use Rattle.nj_needs.specs.Marks.{edge_at}
use Rattle.nj_needs.specs.Needs.{AreWithin}
use Rattle.nj_needs.specs.Walks.{IsFirstPlaceOf}
use Rattle.nj_needs.proofs.Members.{Among, Contains-from_Among}

-- an element at an index of a row is among its elements
Among-at : (row : List (Option ℕ)) (p e : ℕ) → slice_index_or row p None ≡ Some e → Among row e
Among-at [] p e is = absurd cc
Among-at (x ∷ row) zero e is = inl is
Among-at (x ∷ row) (suc p) e is = inr (Among-at row p e is)

module _ (makers : ℕ → List (Option ℕ)) (count : ℕ) (within : (e f : ℕ) → Needs makers e f → f < count) where
  inputs-within : (o : Option ℕ) → AreWithin (made_by makers o) count
  inputs-within None e c = absurd (omega (arith, c.1))
  inputs-within (Some m) e c = within m e c

  pub edge_at-below : (row : List (Option ℕ)) → AreWithin row count → (mark : List ℕ) (e : ℕ)
      → edge_at makers row mark ≡ Some e → e < count
  edge_at-below row inside [] e is = absurd cc
  edge_at-below row inside (p ∷ []) e is = inside e (Contains-from_Among row e (Among-at row p e is))
  edge_at-below row inside (p ∷ q ∷ mark) e is =
      edge_at-below (made_by makers (slice_index_or row p None)) (inputs-within (slice_index_or row p None))
      (q ∷ mark) e is

-- the edge of a first place
pub first-below : (g : EdgeGraph) (targets : List FileNo) (mark : List ℕ) (e : ℕ)
    → IsAcyclic (makers_of g) (count_of g) → AreWithin (row_of g targets) (count_of g)
    → IsFirstPlaceOf g targets mark e → e < count_of g
first-below g targets mark e acyclic inside first =
    edge_at-below (makers_of g) (count_of g) acyclic.1.within (row_of g targets) inside mark e first.0
