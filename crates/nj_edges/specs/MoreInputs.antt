-- Inputs that are added to the edges of a graph, edge by edge.
use Rattle.std.specs.Prelude.{ℕ, ◌+◌, not, if◌then◌else◌, List, [], ◌∷◌, ◌++◌, filter, bytes_eq}
use Rattle.nj_edges.specs.Edges.{EdgePaths, counted_inputs_of, edge_at, is_among}
use Rattle.nj_edges.specs.Joining.{JoinTable, with_added, with_added_input, with_joined}
use Rattle.nj_edges.specs.Repeats.{each_once}

-- the given paths that an edge does not have as explicit or implicit inputs, without duplicates
abbrev pub new_inputs : EdgePaths → (paths : List (List ℕ)) → List (List ℕ)
new_inputs e paths = filter (λ path. not (is_among (counted_inputs_of e) path)) (each_once bytes_eq paths)

-- The edges of a graph with the inputs that were added so far, and the number of the edge to which the next inputs are
-- added.
pub record InputTable : Type 0 where
  pub table : JoinTable
  pub edge : ℕ

-- the explicit and implicit inputs of that edge, and the inputs that are to be added to it
abbrev pub inputs_so_far : InputTable → List (List ℕ)
inputs_so_far t = counted_inputs_of (edge_at t.table.stated t.edge) ++ t.table.«open».inputs

-- one more input, unless the edge has it already
abbrev pub with_new_input : InputTable → (path : List ℕ) → InputTable
with_new_input t path = if is_among (inputs_so_far t) path then t else record t { table = with_added_input t.table path }

-- the collected inputs are the inputs of this edge, and the next edge follows
abbrev pub at_next_edge : InputTable → InputTable
at_next_edge t = record { table = with_joined t.table t.edge; edge = t.edge + 1 }

-- the edges, numbered from this number on, with the inputs that are added to each
abbrev pub with_inputs_added : (added : (edge : ℕ) → List (List ℕ)) → (number : ℕ) → List EdgePaths → List EdgePaths
with_inputs_added added number [] = []
with_inputs_added added number (e ∷ edges) =
    with_added (record { outputs = []; inputs = added number }) e ∷ with_inputs_added added (number + 1) edges
