-- How the critical path is found: for each edge the greatest sum of a chain that ends with it.
use Rattle.std.specs.Prelude.{◌≡◌, ℕ, ◌+◌, ◌*◌, ◌^◌, ◌<◌, ◌≤◌, max, if◌then◌else◌, ◌==◌, nat_lt, Bool, true, false, ◌&&◌, ◌||◌, Option, Some, None, List, [], ◌∷◌, ◌++◌, length, slice_index, Contains, IfSome}
use Rattle.nj_edges.specs.Edges.{EdgePaths}
use Rattle.nj_edges.specs.Needs.{makers_of_inputs}
use Rattle.nj_times.specs.Times.{time_at}

-- ---- costs

-- the cost of a maker; 0 of a source
abbrev pub cost_of : (costs : List ℕ) → (maker : Option ℕ) → ℕ
cost_of costs None = 0
cost_of costs (Some edge) = slice_index costs edge

-- the greatest cost of the makers
abbrev pub greatest : (costs : List ℕ) → (makers : List (Option ℕ)) → ℕ
greatest costs [] = 0
greatest costs (maker ∷ makers) = max (cost_of costs maker) (greatest costs makers)

-- the cost of an edge by the costs of the makers of its inputs
abbrev pub cost_held : List EdgePaths → (durations : List (Option ℕ)) → (costs : List ℕ) → (edge : ℕ) → ℕ
cost_held edges durations costs edge = time_at durations edge + greatest costs (makers_of_inputs edges edge)

-- the first edges of an order have their costs, and all costs are small
pub record AreCosted (edges : List EdgePaths) (durations : List (Option ℕ)) (order : List ℕ) (turn : ℕ) (costs : List ℕ) : Type 0 where
  pub cost_count : length costs ≡ length edges
  pub cost : (k : ℕ) → k < turn → slice_index costs (slice_index order k) ≡ cost_held edges durations costs (slice_index order k)
  pub small : (edge : ℕ) → slice_index costs edge ≤ turn * 2 ^ 64

-- each edge has its cost
pub record AreCosts (edges : List EdgePaths) (durations : List (Option ℕ)) (costs : List ℕ) : Type 0 where
  pub cost_count : length costs ≡ length edges
  pub cost : (edge : ℕ) → slice_index costs edge ≡ cost_held edges durations costs edge

-- ---- the path

-- the first maker with the given cost
abbrev pub first_with : (costs : List ℕ) → (wanted : ℕ) → (makers : List (Option ℕ)) → Option ℕ
first_with costs wanted [] = None
first_with costs wanted (maker ∷ makers) = if cost_of costs maker == wanted then maker else first_with costs wanted makers

-- the first maker with the greatest cost, unless nothing took time before
abbrev pub costliest : (costs : List ℕ) → (makers : List (Option ℕ)) → Option ℕ
costliest costs makers = if greatest costs makers == 0 then None else first_with costs (greatest costs makers) makers

-- the edges of a path from an edge on: after each comes the costliest maker of its inputs
abbrev pub IsFollowed : List EdgePaths → (costs : List ℕ) → (next : Option ℕ) → (path : List ℕ) → Type 0
IsFollowed edges costs None path = path ≡ []
IsFollowed edges costs (Some edge) [] = ⊥
IsFollowed edges costs (Some edge) (first ∷ path) =
    (first ≡ edge) × IsFollowed edges costs (costliest costs (makers_of_inputs edges edge)) path

-- an edge is the next one
abbrev pub is_next : (next : Option ℕ) → (edge : ℕ) → Bool
is_next None edge = false
is_next (Some next) edge = next == edge

-- the edge is one of the first edges of an order
abbrev pub IsBefore : (order : List ℕ) → (turn : ℕ) → (edge : Option ℕ) → Type 0
IsBefore order turn edge = IfSome edge (λ e. (k : ℕ) × (k < turn) × (slice_index order k ≡ e))

-- the path so far, which goes on from the next edge
pub record IsOpen (edges : List EdgePaths) (costs order : List ℕ) (turn : ℕ) (last next : Option ℕ) (path : List ℕ) : Type 0 where
  pub turns : turn ≤ length order
  pub before : IsBefore order turn next
  pub closes : (rest : List ℕ) → IsFollowed edges costs next rest → IsFollowed edges costs last (path ++ rest)

-- the edge is the first in the manifest of the costliest edges that took time
pub record IsCostliest (durations : List (Option ℕ)) (costs : List ℕ) (among : List ℕ) (edge : ℕ) : Type 0 where
  pub member : Contains among edge
  pub timed : 0 < time_at durations edge
  pub most : (other : ℕ) → Contains among other → 0 < time_at durations other → slice_index costs other ≤ slice_index costs edge
  pub first : (other : ℕ) → Contains among other → 0 < time_at durations other → slice_index costs other ≡ slice_index costs edge
      → edge ≤ other

-- the last edge of the path, if any edge took time
abbrev pub IsLast : (durations : List (Option ℕ)) → (costs : List ℕ) → (among : List ℕ) → (last : Option ℕ) → Type 0
IsLast durations costs among None = (other : ℕ) → Contains among other → time_at durations other ≡ 0
IsLast durations costs among (Some edge) = IsCostliest durations costs among edge

-- an edge costs more than another, or as much and is earlier in the manifest
abbrev pub is_costlier : (costs : List ℕ) → (edge : ℕ) → (other : Option ℕ) → Bool
is_costlier costs edge None = true
is_costlier costs edge (Some other) = nat_lt (slice_index costs other) (slice_index costs edge)
    || (slice_index costs edge == slice_index costs other && nat_lt edge other)
