-- The edges that were read so far, and the edge that is being read.
use Rattle.std.specs.Prelude.{ℕ, ◌≤◌, ◌||◌, Bool, is_some, List, []}
use Rattle.std.specs.Prelude.{◌∷◌, ◌++◌, take, drop, slice_range}
use Rattle.nj_edges.specs.declared.edges.KindEnds.{KindEnds}
use Rattle.nj_edges.specs.Edges.{EdgePaths, maker_of, is_among, is_named}
use Rattle.nj_names.specs.NameTables.{with_name}

-- the files that it names so far
pub record OpenEdge : Type 0 where
  pub outputs : List (List ℕ)
  pub inputs : List (List ℕ)
  pub validations : List (List ℕ)

-- the paths of all files, without duplicates; the edges; and the edge that is being read
pub record EdgeTable : Type 0 where
  pub files : List (List ℕ)
  pub edges : List EdgePaths
  pub «open» : OpenEdge

-- an edge that names no files yet
abbrev pub no_files : OpenEdge
no_files = record { outputs = []; inputs = []; validations = [] }

-- the table, with a number for the given path
abbrev pub naming : EdgeTable → (path : List ℕ) → EdgeTable
naming t path = record t { files = with_name t.files path }

-- the open edge has one more output
abbrev pub plus_output : EdgeTable → (path : List ℕ) → EdgeTable
plus_output t path = record t { «open» = record t.«open» { outputs = t.«open».outputs ++ path ∷ [] } }

-- the open edge has one more output, whose path has a number
abbrev pub with_output : EdgeTable → (path : List ℕ) → EdgeTable
with_output t path = plus_output (naming t path) path

-- the open edge has one more input
abbrev pub plus_input : EdgeTable → (path : List ℕ) → EdgeTable
plus_input t path = record t { «open» = record t.«open» { inputs = t.«open».inputs ++ path ∷ [] } }

-- the open edge has one more input, whose path has a number
abbrev pub with_input : EdgeTable → (path : List ℕ) → EdgeTable
with_input t path = plus_input (naming t path) path

-- the open edge has one more validation
abbrev pub plus_validation : EdgeTable → (path : List ℕ) → EdgeTable
plus_validation t path = record t { «open» = record t.«open» { validations = t.«open».validations ++ path ∷ [] } }

-- the open edge has one more validation, whose path has a number
abbrev pub with_validation : EdgeTable → (path : List ℕ) → EdgeTable
with_validation t path = plus_validation (naming t path) path

-- whether an edge makes the file, including the edge that is being read
abbrev pub is_made : EdgeTable → (path : List ℕ) → Bool
is_made t path = is_some (maker_of t.edges path) || is_among t.«open».outputs path

-- whether an edge names the file, including the edge that is being read
abbrev pub is_named_so_far : EdgeTable → (path : List ℕ) → Bool
is_named_so_far t path =
    is_named t.edges path || (is_among t.«open».outputs path || is_among t.«open».inputs path || is_among t.«open».validations path)

-- the edge that was read, with the given ends of its kinds
abbrev pub edge_read : OpenEdge → KindEnds → Bool → EdgePaths
edge_read e ends is_phony = record {
  explicit_outputs = take ends.explicit_outputs e.outputs;
  implicit_outputs = drop ends.explicit_outputs e.outputs;
  explicit_inputs = take ends.explicit_inputs e.inputs;
  implicit_inputs = slice_range e.inputs ends.explicit_inputs ends.implicit_inputs;
  order_only_inputs = drop ends.implicit_inputs e.inputs;
  validations = e.validations;
  is_phony = is_phony;
}

-- the kinds end within the files of the edge
pub record EndWithin (ends : KindEnds) (outputs inputs : ℕ) : Type 0 where
  pub explicit_outputs : ends.explicit_outputs ≤ outputs
  pub explicit_inputs : ends.explicit_inputs ≤ ends.implicit_inputs
  pub implicit_inputs : ends.implicit_inputs ≤ inputs
