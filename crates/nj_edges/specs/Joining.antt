-- Files that are added to the edges of a graph.
use Rattle.std.specs.Prelude.{ℕ, zero, suc, Bool, true, false, ◌||◌, is_some, List, [], ◌∷◌, ◌++◌, map, slice_index_or}
use Rattle.nj_edges.specs.Edges.{EdgePaths, maker_of, is_among}
use Rattle.nj_edges.specs.EdgeGraphs.{EdgeGraph}
use Rattle.nj_names.specs.NameTables.{with_name}

-- files that are added to an edge: outputs and inputs
pub record AddedFiles : Type 0 where
  pub outputs : List (List ℕ)
  pub inputs : List (List ℕ)

-- The edges of a graph, and the additions to them so far.
pub record JoinTable : Type 0 where
  -- the paths of all files, without duplicates
  pub files : List (List ℕ)
  -- the edges of the graph
  pub stated : List EdgePaths
  -- the edges with their additions
  pub joined : List EdgePaths
  -- for each edge, whether it was joined
  pub was_joined : List Bool
  -- the files for the next edge to be joined
  pub «open» : AddedFiles

-- no files are collected
abbrev pub none_added : AddedFiles
none_added = record { outputs = []; inputs = [] }

-- Added files are implicit: added outputs come after all outputs of the edge, and added inputs right before its
-- order-only inputs.
abbrev pub with_added : AddedFiles → EdgePaths → EdgePaths
with_added added e = record e {
  implicit_outputs = e.implicit_outputs ++ added.outputs;
  implicit_inputs = e.implicit_inputs ++ added.inputs;
}

-- the list with the item at the given number changed
unfoldable pub changed_at : {A : Type 0} → (A → A) → (number : ℕ) → List A → List A
changed_at change number [] = []
changed_at change zero (a ∷ others) = change a ∷ others
changed_at change (suc number) (a ∷ others) = a ∷ changed_at change number others

-- nothing was added yet
abbrev pub join_of : EdgeGraph → JoinTable
join_of g = record {
  files = g.files;
  stated = g.edges;
  joined = g.edges;
  was_joined = map (λ e. false) g.edges;
  «open» = none_added;
}

-- one more output is collected for the next edge
abbrev pub with_added_output : JoinTable → (path : List ℕ) → JoinTable
with_added_output t path = record t {
  files = with_name t.files path;
  «open» = record t.«open» { outputs = t.«open».outputs ++ path ∷ [] };
}

-- one more input is collected for the next edge
abbrev pub with_added_input : JoinTable → (path : List ℕ) → JoinTable
with_added_input t path = record t {
  files = with_name t.files path;
  «open» = record t.«open» { inputs = t.«open».inputs ++ path ∷ [] };
}

-- the collected files are added to an edge
abbrev pub with_joined : JoinTable → (edge : ℕ) → JoinTable
with_joined t edge = record t {
  joined = changed_at (with_added t.«open») edge t.joined;
  was_joined = changed_at (λ was. true) edge t.was_joined;
  «open» = none_added;
}

-- whether an edge makes the file, or will
abbrev pub is_made_so_far : JoinTable → (path : List ℕ) → Bool
is_made_so_far t path = is_some (maker_of t.joined path) || is_among t.«open».outputs path

-- the edge was joined
abbrev pub is_joined : JoinTable → (edge : ℕ) → Bool
is_joined t edge = slice_index_or t.was_joined edge false
