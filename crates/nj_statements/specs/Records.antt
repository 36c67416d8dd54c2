-- The records of a run's edges beside their files, and its defaults. Strings and files are kept by number.
use Rattle.std.specs.Prelude.{◌≡◌, ℕ, ◌<◌, Option, Some, None, List, ◌∷◌, map, length, slice_index_or}
use Rattle.std.specs.List.{AllByRecursion}
use Rattle.nj_text.specs.declared.spot.Spot.{Spot}
use Rattle.nj_edge_env.specs.Blocks.{BlocksModel}
use Rattle.nj_names.specs.declared.files.FileNo.{FileNo}
use Rattle.nj_names.specs.Files.{path_at}
use Rattle.nj_names.specs.NameTables.{name_at}
use Rattle.nj_edges.specs.EdgeGraphs.{EdgeGraph}
use Rattle.nj_statements.specs.declared.edge_record.Detail.{Detail}
use Rattle.nj_statements.specs.declared.records.DyndepEdge.{DyndepEdge}
use Rattle.nj_statements.specs.EdgeList.{Pending, AssignedModel}
use Rattle.nj_statements.specs.Built.{BuiltModel, EdgeDetail}

-- ---- numbers

-- strings by number, counted from 1; 0 is none
abbrev pub numbered : (strings : List (List ℕ)) → List (Option (List ℕ))
numbered strings = None ∷ map Some strings

-- the text with the given number, counted from 1; none past the last text
abbrev pub numbered_at : (strings : List (List ℕ)) → (number : ℕ) → Option (List ℕ)
numbered_at strings number = slice_index_or (numbered strings) number None

-- a text has the given number, counted from 1
abbrev pub IsNumbered : (strings : List (List ℕ)) → (number : ℕ) → Type 0
IsNumbered strings number = number < length (numbered strings)

-- ---- an edge

-- the place of the first byte of its statement
abbrev pub spot_of : Detail → Spot
spot_of d = record { line = d.line; column = d.column }

-- its detail, with the file of its statement by name
abbrev pub detail_named : (names : List (List ℕ)) → Detail → EdgeDetail
detail_named names d = record { file = name_at names d.file; spot = spot_of d; scope = d.scope; rule = d.rule }

-- its assignment
abbrev pub assigned_named : (names : List (List ℕ)) → Detail → AssignedModel
assigned_named names d = record { pool = numbered_at names d.pool; dyndep = numbered_at names d.dyndep }

-- a pending edge, with its dyndep file by path
abbrev pub pending_named : (files : List (List ℕ)) → DyndepEdge → Pending
pending_named files d = record { edge = d.edge.0; file = path_at files d.file }

-- ---- all edges

-- the records of the edges, beside their files
pub record RecordsModel : Type 0 where
  pub blocks : BlocksModel
  -- the names of files with edges and of pools, and the paths of dyndep files
  pub names : List (List ℕ)
  pub details : List Detail
  -- the files of all `default` lines
  pub defaults : List FileNo
  -- the edges to which dyndep files are still to be joined
  pub dyndeps : List DyndepEdge

-- with the edges of a graph
abbrev pub with_graph : EdgeGraph → RecordsModel → BuiltModel
with_graph graph r = record {
  graph = graph;
  details = map (detail_named r.names) r.details;
  blocks = r.blocks;
  defaults = map (path_at graph.files) r.defaults;
  pending = map (pending_named graph.files) r.dyndeps;
  assigned = map (assigned_named r.names) r.details;
  restats = map (λ d. d.restat) r.details;
}

-- Each edge has a detail, and all numbers are those of strings, files and edges.
pub record AreOfGraph (graph : EdgeGraph) (r : RecordsModel) : Type 0 where
  pub as_many : length r.details ≡ length graph.edges
  pub names_known : AllByRecursion (λ d. d.file < length r.names) r.details
  pub assigned_known : AllByRecursion (λ d. IsNumbered r.names d.pool × IsNumbered r.names d.dyndep) r.details
  pub defaults_known : AllByRecursion (λ file. file.0 < length graph.files) r.defaults
  pub files_known : AllByRecursion (λ p. p.file.0 < length graph.files) r.dyndeps
  pub edges_known : AllByRecursion (λ p. p.edge.0 < length graph.edges) r.dyndeps
