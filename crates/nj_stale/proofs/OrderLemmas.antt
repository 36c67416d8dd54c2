-- An order of all edges in which makers come first.
use Rattle.std.proofs.Common.{ℕ, zero, suc, ◌<◌, Option, List, [], ◌∷◌, length, map}
use Rattle.std.proofs.Common.{arith}
use Rattle.std.specs.Prelude.{Contains, Some, slice_index}
use Rattle.nj_cycles.specs.Cycles.{AreAfterNeeds, AreEdges, IsAcyclic}
use Rattle.nj_edges.specs.Edges.{EdgePaths, edge_at, inputs_of, maker_of}
use Rattle.nj_edges.specs.Needs.{makers_of_inputs}
use Rattle.nj_stale.specs.Numbered.{IsOrderOfAll}
use Rattle.nj_stale.proofs.StateLemmas.{needs_maker}

-- an edge with an input is in the list
with_input : (makers : List ℕ → Option ℕ) (edges : List EdgePaths) (edge : ℕ) (maker : Option ℕ)
    → Contains (map makers (inputs_of (edge_at edges edge))) maker → edge < length edges
with_input makers [] edge maker c = absurd (omega (arith, c.1))
with_input makers (e ∷ edges) zero maker c = omega arith
with_input makers (e ∷ edges) (suc edge) maker c =
    let below = with_input makers edges edge maker c in omega (arith, below)

-- only edges need edges
pub are_edges : (edges : List EdgePaths) → IsAcyclic (makers_of_inputs edges) (length edges)
    → AreEdges (makers_of_inputs edges) (length edges)
are_edges edges acyclic e f needs =
    (with_input (maker_of edges) edges e (Some f) needs, acyclic.1.within e f needs)

-- the order of a finished walk
pub is_order : (edges : List EdgePaths) (order : List ℕ)
    → AreAfterNeeds (makers_of_inputs edges) (length edges) order → IsOrderOfAll edges order
is_order edges order is = record {
  makers_first = record {
    within = is.within;
    first = λ turn maker path lt c made.
        is.after turn maker lt (needs_maker edges (slice_index order turn) path maker c made);
  };
  all = is.all;
  once = is.once;
}
