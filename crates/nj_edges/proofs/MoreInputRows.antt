-- Inputs that are added to an edge, worked out on a small edge.
use Rattle.std.proofs.Common.{◌≡◌, List, ℕ, [], ◌∷◌, false, refl}
use Rattle.nj_edges.specs.Edges.{EdgePaths}
use Rattle.nj_edges.specs.Joining.{with_added}
use Rattle.nj_edges.specs.MoreInputs.{new_inputs}
use Rattle.nj_edges.proofs.ChangeRows.{a, b, build, p, s, v}

-- `build b: cc a | s || p`
abbrev edge : EdgePaths
edge = record (build b (a ∷ []) (p ∷ []) [] false) { implicit_inputs = s ∷ [] }

-- the edge with the inputs that are added to it if the given paths are named
abbrev edge-naming : List (List ℕ) → EdgePaths
edge-naming paths = with_added (record { outputs = []; inputs = new_inputs edge paths }) edge

order-only-is-added : (edge-naming (p ∷ [])).implicit_inputs ≡ s ∷ p ∷ []
order-only-is-added = refl

and-stays : (edge-naming (p ∷ [])).order_only_inputs ≡ p ∷ []
and-stays = refl

implicit-is-not-added : new_inputs edge (s ∷ []) ≡ []
implicit-is-not-added = refl

explicit-is-not-added : new_inputs edge (a ∷ []) ≡ []
explicit-is-not-added = refl

new-ones-once : new_inputs edge (v ∷ s ∷ p ∷ v ∷ []) ≡ v ∷ p ∷ []
new-ones-once = refl
