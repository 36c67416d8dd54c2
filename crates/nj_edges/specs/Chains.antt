-- Chains of inputs by which a file needs another.
use Rattle.std.specs.Prelude.{◌≡◌, ◌≢◌, ◌⊎◌, ℕ, ◌<◌, ◌≤◌, if◌then◌else◌, Option, None, Some, List, [], ◌∷◌, ◌++◌, bytes_eq, length, slice_get, nat_lt, ⊤}
use Rattle.std.specs.List.{IsDistinct}
use Rattle.nj_edges.specs.declared.chains.ChainKinds.{ChainKinds}
use Rattle.nj_edges.specs.declared.chains.Step.{Step}
use Rattle.nj_edges.specs.declared.edges.Kind.{Kind}
use Rattle.nj_names.specs.declared.files.FileNo.{FileNo}
use Rattle.nj_edges.specs.Edges.{EdgePaths, counted_inputs_of, edge_at, kind_at, maker_of}
use Rattle.nj_edges.specs.EdgeGraphs.{EdgeGraph}
use Rattle.nj_names.specs.Files.{path_at}

-- the explicit and the implicit inputs of an edge, and the order-only inputs if they count
abbrev pub inputs_of_kinds : ChainKinds → EdgePaths → List (List ℕ)
inputs_of_kinds kinds e = counted_inputs_of e ++ (if kinds.order_only then e.order_only_inputs else [])

-- followed by its validations if they count as inputs too
abbrev pub inputs_with : ChainKinds → EdgePaths → List (List ℕ)
inputs_with kinds e = inputs_of_kinds kinds e ++ (if kinds.validations then e.validations else [])

-- the kind of the input at an index; `None` for a validation
abbrev pub kind_with : ChainKinds → EdgePaths → (index : ℕ) → Option Kind
kind_with kinds e index = if nat_lt index (length (inputs_of_kinds kinds e)) then Some (kind_at e index) else None

-- a step goes from an edge to a file that is an input of it
pub record IsStep (g : EdgeGraph) (kinds : ChainKinds) (step : Step) : Type 0 where
  pub file : step.file.0 < length g.files
  pub input : slice_get (inputs_with kinds (edge_at g.edges step.edge.0)) step.index ≡ Some (path_at g.files step.file)
  pub kind : step.kind ≡ kind_with kinds (edge_at g.edges step.edge.0) step.index

-- steps lead from a file to another: each starts at the maker of the file that the previous step led to
abbrev pub Lead : EdgeGraph → (kinds : ChainKinds) → (from : List ℕ) → List Step → (to : List ℕ) → Type 0
Lead g kinds from [] to = from ≡ to
Lead g kinds from (step ∷ steps) to =
    (maker_of g.edges from ≡ Some step.edge.0) × IsStep g kinds step
    × Lead g kinds (path_at g.files step.file) steps to

-- a chain from a file to another: at least one step, and steps that lead there
abbrev pub IsChain : EdgeGraph → (kinds : ChainKinds) → (from : List ℕ) → List Step → (to : List ℕ) → Type 0
IsChain g kinds from [] to = ⊥
IsChain g kinds from (step ∷ steps) to = Lead g kinds from (step ∷ steps) to

-- steps are not after other steps of the same number: at the first step where they differ, the former has the
-- smaller index
abbrev pub IsNotAfter : (steps others : List Step) → Type 0
IsNotAfter [] others = ⊤
IsNotAfter (step ∷ steps) [] = ⊥
IsNotAfter (step ∷ steps) (other ∷ others) =
    (step.index < other.index) ⊎ ((step.index ≡ other.index) × IsNotAfter steps others)

-- no chain has fewer steps, and it is the first of the chains with the same number of steps
pub record IsShortest (g : EdgeGraph) (kinds : ChainKinds) (from : List ℕ) (steps : List Step) (to : List ℕ) : Type 0 where
  pub chain : IsChain g kinds from steps to
  pub shortest : (others : List Step) → IsChain g kinds from others to → length steps ≤ length others
  pub leftmost : (others : List Step) → IsChain g kinds from others to → length others ≡ length steps → IsNotAfter steps others

-- the requested chain; `None` from a file to itself
abbrev pub PathIs : EdgeGraph → (kinds : ChainKinds) → (from to : FileNo) → Option (List Step) → Type 0
PathIs g kinds from to None =
    (from ≡ to) ⊎ ((steps : List Step) → ¬ IsChain g kinds (path_at g.files from) steps (path_at g.files to))
PathIs g kinds from to (Some steps) =
    (from ≢ to) × IsShortest g kinds (path_at g.files from) steps (path_at g.files to)

-- if no two files share a path, at most one answer is right
abbrev pub OnePathIsRight : Type 0
OnePathIsRight = (g : EdgeGraph) (kinds : ChainKinds) (from to : FileNo) (path other : Option (List Step))
    → IsDistinct bytes_eq g.files → PathIs g kinds from to path → PathIs g kinds from to other → path ≡ other
