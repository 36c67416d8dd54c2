-- How a shortest chain is found.
use Rattle.std.specs.Prelude.{◌≡◌, ◌⊎◌, ℕ, suc, ◌+◌, ◌<◌, ◌≤◌, ◌^◌, Bool, if◌then◌else◌, Option, None, Some, List, [], ◌∷◌, ◌++◌, map, length, take, slice_get, slice_index, slice_index_or, Contains, ⊤}
use Rattle.nj_names.specs.NumberSets.{NumberSetModel}
use Rattle.nj_edges.specs.declared.chains.Arrival.{Arrival}
use Rattle.nj_edges.specs.declared.chains.ChainKinds.{ChainKinds}
use Rattle.nj_edges.specs.declared.chains.Step.{Step}
use Rattle.nj_edges.specs.declared.edges.EdgeNo.{EdgeNo}
use Rattle.nj_names.specs.declared.files.FileNo.{FileNo}
use Rattle.nj_edges.specs.Chains.{inputs_with, IsChain, IsNotAfter, IsStep}
use Rattle.nj_edges.specs.Distances.{IsReachedIn}
use Rattle.nj_edges.specs.Edges.{edge_at, maker_of}
use Rattle.nj_edges.specs.EdgeGraphs.{EdgeGraph}
use Rattle.nj_names.specs.Files.{path_at}
use Rattle.nj_edges.specs.Inside.ChangesHeld.{FindsMore}
use Rattle.nj_edges.specs.Inside.SearchHeld.{IsSearched}

-- an edge has a file as an input
abbrev pub HasInput : EdgeGraph → (kinds : ChainKinds) → (path : List ℕ) → (edge : ℕ) → Type 0
HasInput g kinds path edge = Contains (inputs_with kinds (edge_at g.edges edge)) path

-- the step from an edge to its input at an index
pub record IsStepAt (g : EdgeGraph) (kinds : ChainKinds) (edge : EdgeNo) (index : ℕ) (step : Step) : Type 0 where
  pub edge_is : step.edge ≡ edge
  pub index_is : step.index ≡ index
  pub is_step : IsStep g kinds step
  pub known : step.file.0 < length g.files
  pub only : (file : FileNo) → file.0 < length g.files → path_at g.files step.file ≡ path_at g.files file → step.file ≡ file
  pub fits : index + 1 < 2 ^ 64

-- the first step from an edge to a file; `None` if the file is not one of its inputs
abbrev pub StepToIs : EdgeGraph → (kinds : ChainKinds) → EdgeNo → (to : List ℕ) → Option Step → Type 0
StepToIs g kinds edge to None = ¬ HasInput g kinds to edge.0
StepToIs g kinds edge to (Some step) = (step.edge ≡ edge) × IsStep g kinds step × (path_at g.files step.file ≡ to)
    × ((i : ℕ) → slice_get (inputs_with kinds (edge_at g.edges edge.0)) i ≡ Some to → step.index ≤ i)

-- the step by the input at an index; `None` past the last input
abbrev pub StepIs : EdgeGraph → (kinds : ChainKinds) → EdgeNo → (index : ℕ) → Option Step → Type 0
StepIs g kinds edge index None = length (inputs_with kinds (edge_at g.edges edge.0)) ≤ index
StepIs g kinds edge index (Some step) = IsStepAt g kinds edge index step

-- ---- from edge to edge

-- an edge makes an input of another before an index
abbrev pub MakesInputBefore : EdgeGraph → (kinds : ChainKinds) → (index user edge : ℕ) → Type 0
MakesInputBefore g kinds index user edge =
    Contains (map (maker_of g.edges) (take index (inputs_with kinds (edge_at g.edges user)))) (Some edge)

-- an edge makes an input of another
abbrev pub MakesInput : EdgeGraph → (kinds : ChainKinds) → (user edge : ℕ) → Type 0
MakesInput g kinds user edge =
    Contains (map (maker_of g.edges) (inputs_with kinds (edge_at g.edges user))) (Some edge)

abbrev pub IsReachedFrom : EdgeGraph → (kinds : ChainKinds) → (first steps edge : ℕ) → Type 0
IsReachedFrom g kinds first steps edge = IsReachedIn (λ e. e ≡ first) (MakesInput g kinds) steps edge

-- whatever file the first edge makes, the steps lead from it to a file
abbrev pub LeadFrom : EdgeGraph → (kinds : ChainKinds) → (first : ℕ) → List Step → (to : List ℕ) → Type 0
LeadFrom g kinds first steps to = (from : List ℕ) → maker_of g.edges from ≡ Some first → IsChain g kinds from steps to

-- edges that are reached in fewer steps do not have the file as an input
pub record IsShortestFrom (g : EdgeGraph) (kinds : ChainKinds) (first : ℕ) (to : List ℕ) (steps : List Step) : Type 0 where
  pub leads : LeadFrom g kinds first steps to
  pub shortest : (n e : ℕ) → IsReachedFrom g kinds first n e → HasInput g kinds to e → length steps ≤ suc n

-- the steps come first among the chains of the same length from files that the first edge makes
abbrev pub IsLeftmostFrom : EdgeGraph → (kinds : ChainKinds) → (first : ℕ) → (to : List ℕ) → List Step → Type 0
IsLeftmostFrom g kinds first to steps =
    (from : List ℕ) (others : List Step) → maker_of g.edges from ≡ Some first → IsChain g kinds from others to
    → length others ≡ length steps → IsNotAfter steps others

-- the first of the shortest chains from an edge's outputs to a file
abbrev pub ChainIs : EdgeGraph → (kinds : ChainKinds) → (first : ℕ) → (to : List ℕ) → Option (List Step) → Type 0
ChainIs g kinds first to None = (n e : ℕ) → IsReachedFrom g kinds first n e → ¬ HasInput g kinds to e
ChainIs g kinds first to (Some steps) = IsShortestFrom g kinds first to steps × IsLeftmostFrom g kinds first to steps

-- ---- how the search came to edges

-- the arrival at the edge at a place is a step from an edge at an earlier place
pub record IsArrival (g : EdgeGraph) (kinds : ChainKinds) (numbers : List ℕ) (place : ℕ) (arrival : Arrival) : Type 0 where
  pub earlier : arrival.place < place
  pub from : arrival.step.edge.0 ≡ slice_index numbers arrival.place
  pub is_step : IsStep g kinds arrival.step
  pub made : maker_of g.edges (path_at g.files arrival.step.file) ≡ Some (slice_index numbers place)

-- its distance is one more than that of the edge before it; the first edge has no arrival
abbrev pub Arrives : EdgeGraph → (kinds : ChainKinds) → (first : ℕ) → (distance : ℕ → ℕ) → (numbers : List ℕ)
    → (place : ℕ) → Option Arrival → Type 0
Arrives g kinds first distance numbers place None =
    (slice_index numbers place ≡ first) × (distance (slice_index numbers place) ≡ 0)
Arrives g kinds first distance numbers place (Some arrival) =
    IsArrival g kinds numbers place arrival
    × (distance (slice_index numbers place) ≡ suc (distance (slice_index numbers arrival.place)))

-- each arrival comes from an earlier place
abbrev pub ComeFromEarlier : List (Option Arrival) → Type 0
ComeFromEarlier arrivals = (place : ℕ) (arrival : Arrival) → slice_index_or arrivals place None ≡ Some arrival → arrival.place < place

-- back from a place, with the steps that come after it, the whole chain is this
pub data Traces (arrivals : List (Option Arrival)) : (place : ℕ) → (steps whole : List Step) → Type 0 where
  start : {place : ℕ} {steps : List Step} → slice_index_or arrivals place None ≡ None → Traces arrivals place steps steps
  back : {place : ℕ} {steps whole : List Step} (arrival : Arrival) → slice_index_or arrivals place None ≡ Some arrival
      → Traces arrivals arrival.place (arrival.step ∷ steps) whole → Traces arrivals place steps whole

-- the arrivals at edges, with that at one more edge unless it was known
abbrev pub with_arrival : List (Option Arrival) → (known : Bool) → Option Arrival → List (Option Arrival)
with_arrival arrivals known arrival = if known then arrivals else arrivals ++ arrival ∷ []

-- some makers of inputs of the edge at a place were found, and how the search arrived at them is known
pub record AddsMakers (g : EdgeGraph) (kinds : ChainKinds) (P : ℕ → Type 0) (place : ℕ) (old new : NumberSetModel)
    (before after : List (Option Arrival)) : Type 0 where
  pub finds : FindsMore P old new
  pub count : length after ≡ length new.numbers
  pub stays : (i : ℕ) → i < length old.numbers → slice_index_or after i None ≡ slice_index_or before i None
  pub added : (i : ℕ) → length old.numbers ≤ i → i < length new.numbers
      → (arrival : Arrival) × (slice_index_or after i None ≡ Some arrival) × (arrival.place ≡ place)
      × IsArrival g kinds new.numbers i arrival

-- between two turns: no edge before the place has the file as an input
pub record SearchesChain (g : EdgeGraph) (kinds : ChainKinds) (first : ℕ) (to : List ℕ) (found : NumberSetModel)
    (arrivals : List (Option Arrival)) (place : ℕ) : Type 0 where
  pub limit : found.limit ≡ length g.edges
  pub distance : (e : ℕ) → ℕ
  pub searched : IsSearched (λ e. e ≡ first) (MakesInput g kinds) distance found.numbers place
  pub count : length arrivals ≡ length found.numbers
  pub arrive : (i : ℕ) → i < length found.numbers
      → Arrives g kinds first distance found.numbers i (slice_index_or arrivals i None)
  pub missed : (i : ℕ) → i < place → ¬ HasInput g kinds to (slice_index found.numbers i)

-- ---- in which order it came to them

-- an edge makes the input of another at an index
abbrev pub MakesInputAt : EdgeGraph → (kinds : ChainKinds) → (user index edge : ℕ) → Type 0
MakesInputAt g kinds user index edge =
    (path : List ℕ) × (slice_get (inputs_with kinds (edge_at g.edges user)) index ≡ Some path) × (maker_of g.edges path ≡ Some edge)

abbrev pub arrival_index : Option Arrival → ℕ
arrival_index None = 0
arrival_index (Some arrival) = arrival.step.index

-- the edges that were added came in the order of the inputs before an index, each by the first input that it
-- makes
pub record AddsInOrder (g : EdgeGraph) (kinds : ChainKinds) (user index : ℕ) (old new : NumberSetModel)
    (after : List (Option Arrival)) : Type 0 where
  pub before : (i : ℕ) → length old.numbers ≤ i → i < length new.numbers → arrival_index (slice_index_or after i None) < index
  pub rises : (i j : ℕ) → length old.numbers ≤ i → i < j → j < length new.numbers
      → arrival_index (slice_index_or after i None) < arrival_index (slice_index_or after j None)
  pub earliest : (i k : ℕ) → length old.numbers ≤ i → i < length new.numbers → k < index
      → MakesInputAt g kinds user k (slice_index new.numbers i) → arrival_index (slice_index_or after i None) ≤ k

-- an arrival came before a step by the input at an index of the edge at a place; the first edge has no arrival
abbrev pub ComesSooner : Option Arrival → (place index : ℕ) → Type 0
ComesSooner None place index = ⊤
ComesSooner (Some arrival) place index = (arrival.place < place) ⊎ ((arrival.place ≡ place) × (arrival.step.index < index))

abbrev pub ComesBefore : (arrival later : Option Arrival) → Type 0
ComesBefore arrival None = ⊥
ComesBefore arrival (Some later) = ComesSooner arrival later.place later.step.index

-- an arrival comes from an edge before a place
abbrev pub ComesFromBefore : (place : ℕ) → Option Arrival → Type 0
ComesFromBefore place None = ⊤
ComesFromBefore place (Some arrival) = arrival.place < place

-- between two turns: the search came to edges in the order in which it found them, and to each by the first step that leads there
-- from an edge before the place
pub record SearchesInOrder (g : EdgeGraph) (kinds : ChainKinds) (numbers : List ℕ) (arrivals : List (Option Arrival))
    (place : ℕ) : Type 0 where
  pub behind : (i : ℕ) → i < length numbers → ComesFromBefore place (slice_index_or arrivals i None)
  pub rises : (i j : ℕ) → i < j → j < length numbers → ComesBefore (slice_index_or arrivals i None) (slice_index_or arrivals j None)
  pub earliest : (i p k : ℕ) → i < length numbers → p < place → MakesInputAt g kinds (slice_index numbers p) k (slice_index numbers i)
      → ComesSooner (slice_index_or arrivals i None) p (suc k)
