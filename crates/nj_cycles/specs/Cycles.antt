-- Dependency cycles. The edges of a build graph (its build statements) are numbered from 0, and `makers` has for
-- each edge the makers of its inputs, in their order: the edge that makes an input, or None for a source.
use Rattle.std.specs.Prelude.{◌≡◌, ◌≢◌, ℕ, ◌<◌, List, Option, None, Some, length, slice_index, Contains}

-- edge e needs edge f directly: f makes an input of e
abbrev pub Needs : (makers : ℕ → List (Option ℕ)) → ℕ → ℕ → Type 0
Needs makers e f = Contains (makers e) (Some f)

-- from e to f in one step or more
pub data Chain {A : Type 0} (step : A → A → Type 0) : A → A → Type 0 where
  one : {e f : A} → step e f → Chain step e f
  more : {e g f : A} → step e g → Chain step g f → Chain step e f

-- edge e needs edge f in one step or more
abbrev pub NeedsByChain : (makers : ℕ → List (Option ℕ)) → ℕ → ℕ → Type 0
NeedsByChain makers = Chain (Needs makers)

-- edge e lies on a cycle: it needs itself by a chain. An edge that only leads into a cycle does not lie on it
abbrev pub IsOnCycle : (makers : ℕ → List (Option ℕ)) → ℕ → Type 0
IsOnCycle makers e = NeedsByChain makers e e

-- only edges below the given number have inputs or make inputs
abbrev pub AreEdges : (makers : ℕ → List (Option ℕ)) → (edge_count : ℕ) → Type 0
AreEdges makers edge_count = (e f : ℕ) → Needs makers e f → (e < edge_count) × (f < edge_count)

-- a rank falls along every need
abbrev pub FallsAlongNeeds : (makers : ℕ → List (Option ℕ)) → (rank : ℕ → ℕ) → Type 0
FallsAlongNeeds makers rank = (e f : ℕ) → Needs makers e f → rank f < rank e

-- A rank that falls along every need is below the number of edges: no chain is longer than that. Edges need only edges.
pub record IsRank (makers : ℕ → List (Option ℕ)) (edge_count : ℕ) (rank : ℕ → ℕ) : Type 0 where
  pub falls : FallsAlongNeeds makers rank
  pub bounded : (e : ℕ) → e < edge_count → rank e < edge_count
  pub within : (e f : ℕ) → Needs makers e f → f < edge_count

-- the graph has no cycle
abbrev pub IsAcyclic : (makers : ℕ → List (Option ℕ)) → (edge_count : ℕ) → Type 0
IsAcyclic makers edge_count = (rank : ℕ → ℕ) × IsRank makers edge_count rank

-- e is the edge with the smallest number that lies on a cycle
abbrev pub IsLeastOnCycle : (makers : ℕ → List (Option ℕ)) → ℕ → Type 0
IsLeastOnCycle makers e = IsOnCycle makers e × ((f : ℕ) → f < e → ¬ IsOnCycle makers f)

-- the result of the cycle check
abbrev pub IsFirstOnCycle : (makers : ℕ → List (Option ℕ)) → (edge_count : ℕ) → Option ℕ → Type 0
IsFirstOnCycle makers edge_count None = IsAcyclic makers edge_count
IsFirstOnCycle makers edge_count (Some e) = IsLeastOnCycle makers e

-- where a rank falls along every need, no edge needs itself by a chain
abbrev pub FallingRanksLeaveNoCycle : Type 0
FallingRanksLeaveNoCycle =
    (makers : ℕ → List (Option ℕ)) (rank : ℕ → ℕ) → FallsAlongNeeds makers rank → (e : ℕ) → ¬ IsOnCycle makers e

-- an order of all edges, without duplicates, in which each edge comes after the edges that it needs
pub record AreAfterNeeds (makers : ℕ → List (Option ℕ)) (edge_count : ℕ) (order : List ℕ) : Type 0 where
  pub all : (e : ℕ) → e < edge_count → Contains order e
  pub within : (turn : ℕ) → turn < length order → slice_index order turn < edge_count
  pub once : (turn later : ℕ) → turn < later → later < length order → slice_index order turn ≢ slice_index order later
  pub after : (turn f : ℕ) → turn < length order → Needs makers (slice_index order turn) f
      → (earlier : ℕ) × (earlier < turn) × (slice_index order earlier ≡ f)
