-- The commands of a graph, edge by edge.
use Rattle.std.proofs.Common.{◌≡◌, ◌<◌, ◌+◌, ◌++◌, ◌∙◌, ℕ, Bool, true, false, cond, List, [], ◌∷◌, length}
use Rattle.std.proofs.Common.{take, ap}
use Rattle.std.specs.Prelude.{not}
use Rattle.std.proofs.lemmas.List.{append-nil}
use Rattle.nj_edges.proofs.Passing.{from-more}
use Rattle.nj_graph.specs.Edges.{EdgePaths, edge_at, edges_from}

-- the commands of the first edges
abbrev pub first_commands : List EdgePaths → (count : ℕ) → List ℕ
first_commands edges count = edges_from 0 (λ e. not e.is_phony) (take count edges)

module _ (edges : List EdgePaths) (n : ℕ) (below : n < length edges) where
  more : (phony : Bool) → (edge_at edges n).is_phony ≡ phony
      → first_commands edges (n + 1) ≡ first_commands edges n ++ cond (not phony) (n ∷ []) []
  more phony is = from-more (λ e. not e.is_phony) edges n (edge_at [] 0) (not phony) below (ap not is)

  -- one more edge, with a command
  pub command-more : (edge_at edges n).is_phony ≡ false
      → first_commands edges (n + 1) ≡ first_commands edges n ++ n ∷ []
  command-more is = more false is

  -- and without
  pub phony-more : (edge_at edges n).is_phony ≡ true → first_commands edges (n + 1) ≡ first_commands edges n
  phony-more is = more true is ∙ append-nil (first_commands edges n)
