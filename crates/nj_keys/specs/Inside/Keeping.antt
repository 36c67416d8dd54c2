-- The keys that are kept while more are computed.
use Rattle.std.specs.Prelude.{◌≡◌, ◌≤◌, ◌<◌, ◌⊎◌, ℕ, ◌+◌, if◌then◌else◌, Option, Some, None, is_some, option_map, unwrap_or}
use Rattle.std.specs.Prelude.{List, [], ◌∷◌, length, slice_get, sum_by}
use Rattle.nj_graph.specs.ReadingList.{ReadStatement}
use Rattle.nj_graph.specs.Edges.{EdgePaths, inputs_of, maker_of}
use Rattle.nj_graph.specs.Graph.{GraphModel, edges_of}
use Rattle.nj_graph.specs.Handles.{GraphEdge, GraphFile, edge_in, edge_of, files_in, paths_of}
use Rattle.nj_keys.specs.Keys.{IsKey, Needs}
use Rattle.nj_keys.specs.declared.keys.Frame.{Frame}

-- the kept key of an edge; empty if no key is kept
abbrev pub kept_key : List (Option (List ℕ)) → (edge : ℕ) → List ℕ
kept_key keys edge = unwrap_or (unwrap_or (slice_get keys edge) None) []

abbrev pub IsKept : List (Option (List ℕ)) → (edge : ℕ) → Type 0
IsKept keys edge = (key : List ℕ) × (slice_get keys edge ≡ Some (Some key))

-- the entry kept for an edge is its key
abbrev pub KeepsKeys : (folders : List (List ℕ)) → List EdgePaths → List ReadStatement → (keys : List (Option (List ℕ))) → Type 0
KeepsKeys folders edges entries keys = (e : ℕ) (key : List ℕ) → slice_get keys e ≡ Some (Some key) → IsKey folders edges entries e key

-- an edge has a place, and its key is not kept
abbrev pub IsMissing : List (Option (List ℕ)) → (edge : ℕ) → Type 0
IsMissing keys edge = slice_get keys edge ≡ Some None

-- ---- makers

-- the edge that makes a file
abbrev pub made_by : GraphFile → Option GraphEdge
made_by file = option_map (edge_in file.graph) (maker_of (edges_of file.graph) file.path)

-- an edge makes one of the given files
abbrev pub MakesOne : List GraphFile → GraphEdge → Type 0
MakesOne [] edge = ⊥
MakesOne (file ∷ files) edge = (made_by file ≡ Some edge) ⊎ MakesOne files edge

-- the inputs of an edge
abbrev pub inputs_in : GraphEdge → List GraphFile
inputs_in edge = files_in edge.graph (inputs_of (paths_of edge))

-- ---- open edges

-- a rank falls from each edge to the edges that it needs, which are in the list too, and is below the number of edges
pub record IsRank (edges : List EdgePaths) (rank : ℕ → ℕ) : Type 0 where
  pub falls : (e f : ℕ) → Needs edges e f → rank f < rank e
  pub bounded : (e : ℕ) → e < length edges → rank e < length edges
  pub within : (e f : ℕ) → Needs edges e f → f < length edges

-- no edge needs itself
abbrev pub IsAcyclic : List EdgePaths → Type 0
IsAcyclic edges = (rank : ℕ → ℕ) × IsRank edges rank

-- an edge of the graph without a key, and the inputs whose makers may lack a key
pub record IsOpen (g : GraphModel) (keys : List (Option (List ℕ))) (rank : ℕ → ℕ) (least : ℕ) (edge : GraphEdge)
    (inputs : List GraphFile) : Type 0 where
  pub graph : edge.graph ≡ g
  pub above : least ≤ rank edge.number
  pub missing : IsMissing keys edge.number
  pub needed : (maker : GraphEdge) → MakesOne inputs maker → (maker.graph ≡ g) × Needs (edges_of g) edge.number maker.number
  pub left : (maker : ℕ) → Needs (edges_of g) edge.number maker → IsMissing keys maker → MakesOne inputs (edge_in g maker)

-- open edges of rising ranks, from the last that was opened
abbrev pub AreOpen : GraphModel → (keys : List (Option (List ℕ))) → (rank : ℕ → ℕ) → (least : ℕ) → List Frame → Type 0
AreOpen g keys rank least [] = Unit {0}
AreOpen g keys rank least (frame ∷ frames) =
    IsOpen g keys rank least (edge_of frame.edge) frame.inputs × AreOpen g keys rank (rank (edge_of frame.edge).number + 1) frames

-- the edge was opened before all others; once no edge is open, its key is kept
abbrev pub BeganWith : (keys : List (Option (List ℕ))) → (edge : ℕ) → List Frame → Type 0
BeganWith keys edge [] = IsKept keys edge
BeganWith keys edge (frame ∷ []) = (edge_of frame.edge).number ≡ edge
BeganWith keys edge (frame ∷ next ∷ frames) = BeganWith keys edge (next ∷ frames)

-- how many keys are missing
abbrev pub missing_one : Option (List ℕ) → ℕ
missing_one key = if is_some key then 0 else 1

abbrev pub missing : List (Option (List ℕ)) → ℕ
missing keys = sum_by missing_one keys
