-- Sets of a graph's files. Nothing here has to be believed.
use Rattle.std.specs.Prelude.{◌≡◌, ◌<◌, ℕ, List, All, bytes_eq, length}
use Rattle.std.specs.List.{IsDistinct}
use Rattle.nj_names.specs.NumberSets.{NumberSetModel}
use Rattle.nj_graph.specs.Edges.{is_among}
use Rattle.nj_graph.specs.Graph.{GraphModel}
use Rattle.nj_audit.specs.Audit.{defaults_of}

-- files by their paths, without duplicates, in the order in which they were added
pub record FileSetModel : Type 0 where
  pub graph : GraphModel
  pub paths : List (List ℕ)

-- the numbers are those of files, and no two of the files have the same path
pub record HasFileNumbers (files : List (List ℕ)) (set : NumberSetModel) : Type 0 where
  pub limit : set.limit ≡ length files
  pub known : All (λ number. number < length files) set.numbers
  pub once : IsDistinct bytes_eq files

-- the set has the defaults of a graph
pub record HasDefaults (g : GraphModel) (set : FileSetModel) : Type 0 where
  pub graph : set.graph ≡ g
  pub paths : (path : List ℕ) → is_among set.paths path ≡ is_among (defaults_of g) path
