-- Which edges need edges.
use Rattle.std.proofs.Common.{◌≡◌, ℕ, zero, suc, ◌<◌, inl, inr, Option, List, [], ◌∷◌, length, map, refl}
use Rattle.std.proofs.Common.{subst, arith, sym}
use Rattle.std.specs.Prelude.{Contains, Some, option_map, slice_get}
use Rattle.nj_cycles.specs.Cycles.{AreEdges, IsAcyclic, Needs, NeedsByChain}
use Rattle.nj_cycles.specs.Cycles.Chain.{one, more}
use Rattle.nj_edges.specs.Distances.{IsNeeded}
use Rattle.nj_edges.specs.Edges.{EdgePaths, edge_at, inputs_of, maker_of}
use Rattle.nj_edges.specs.Needs.{makers_of_inputs}

-- an edge with an input is in the list
with_input : (makers : List ℕ → Option ℕ) (edges : List EdgePaths) (edge : ℕ) (maker : Option ℕ)
    → Contains (map makers (inputs_of (edge_at edges edge))) maker → edge < length edges
with_input makers [] edge maker c = absurd (omega (arith, c.1))
with_input makers (e ∷ edges) zero maker c = omega arith
with_input makers (e ∷ edges) (suc edge) maker c =
    let below = with_input makers edges edge maker c in omega (arith, below)

-- only edges need edges
pub are_edges : (edges : List EdgePaths) → IsAcyclic (makers_of_inputs edges) (length edges)
    → AreEdges (makers_of_inputs edges) (length edges)
are_edges edges acyclic e f needs =
    (with_input (maker_of edges) edges e (Some f) needs, acyclic.1.within e f needs)

-- a chain of needs, and one more
longer : (makers : ℕ → List (Option ℕ)) (e g f : ℕ) → NeedsByChain makers e g → Needs makers g f
    → NeedsByChain makers e f
longer makers e g f (one step) last = more step (one last)
longer makers e g f (more {g = h} step chain) last = more step (longer makers h g f chain last)

-- what files need includes the makers of its inputs
pub needs_step : (edges : List EdgePaths) (files : List (List ℕ)) (edge maker : ℕ) → IsNeeded edges files edge
    → Needs (makers_of_inputs edges) edge maker → IsNeeded edges files maker
needs_step edges files edge maker needed needs = (
  needed.0,
  needed.1,
  elim needed.2 [
    | inl same ↦ inr (one (subst (λ e. Needs (makers_of_inputs edges) e maker) (sym same) needs))
    | inr chain ↦ inr (longer (makers_of_inputs edges) needed.0 edge maker chain needs)
  ],
)

-- ---- lists

pub get_map : {X Y : Type 0} (f : X → Y) (xs : List X) (place : ℕ)
    → slice_get (map f xs) place ≡ option_map f (slice_get xs place)
get_map f [] place = refl
get_map f (x ∷ xs) zero = refl
get_map f (x ∷ xs) (suc place) = get_map f xs place
