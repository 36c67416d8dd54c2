-- Whether a manifest is up to date with all that it is made from.
use Rattle.std.specs.Prelude.{◌≡◌, ℕ, ◌<◌, ◌==◌, Bool, true, false, ◌&&◌, ◌||◌, not, if◌then◌else◌, List, ◌++◌, Contains}
use Rattle.std.specs.Prelude.{codes, length, map, nat_lt}
use Rattle.std.specs.List.{fold, list_any}
use Rattle.nj_discovered.specs.Times.{DeclaredTimes, IsTimeOf}
use Rattle.nj_discovered.specs.declared.times.TimeFound.TheVariants.{NoAnswer}
use Rattle.nj_state.specs.FileTimesFound.{HaveTimes}
use Rattle.nj_graph.specs.ReadingList.{ReadStatement}
use Rattle.nj_graph.specs.Changes.{IsOrNeeds}
use Rattle.nj_graph.specs.Edges.{EdgePaths, counted_inputs_of, edge_at, outputs_of}
use Rattle.nj_graph.specs.Graph.{GraphModel, edges_of, late_text_of}
use Rattle.nj_audit.specs.Audit.{has_generator}
use Rattle.nj_ask.specs.declared.discovered.DiscoveredGraph.{DiscoveredGraph}
use Rattle.nj_ask.specs.Manifest.{is_one_of, makes_manifest}

-- ---- the edges that the manifest needs

-- an edge makes the manifest, where the given files were opened, or an edge that makes it needs it through any chain of inputs
pub record IsManifestEdge (g : GraphModel) (opened : List ℕ) (entries : List ReadStatement) (edge : ℕ) : Type 0 where
  pub below : edge < length (edges_of g)
  pub maker : ℕ
  pub maker_below : maker < length (edges_of g)
  pub makes : makes_manifest g opened entries maker ≡ true
  pub needs : IsOrNeeds (edges_of g) maker edge

-- ---- by times

-- the later of two times
abbrev pub later : ℕ → ℕ → ℕ
later newest time = if nat_lt newest time then time else newest

-- Outputs are up to date with inputs, by their times, 0 for a missing file: no file is missing, and no output is older than the newest
-- input.
abbrev pub are_current : (outputs inputs : List ℕ) → Bool
are_current outputs inputs =
    not (list_any (λ time. time == 0) inputs || list_any (λ time. time == 0) outputs
    || list_any (λ time. nat_lt time (fold later 0 inputs)) outputs)

-- the time of one of the files at the given paths cannot be read
pub record LacksOneTime (times : DeclaredTimes) (paths : List (List ℕ)) : Type 0 where
  pub path : List ℕ
  pub is_one : Contains paths path
  pub none : IsTimeOf times path NoAnswer

-- Whether the outputs of an edge are up to date with its inputs, but for order-only inputs. Where a time cannot be read they are not known
-- to be.
pub data HasCurrentOutputs (times : DeclaredTimes) (e : EdgePaths) : Bool → Type 0 where
  timed : (outputs inputs : List ℕ) → HaveTimes times (outputs_of e) outputs → HaveTimes times (counted_inputs_of e) inputs
      → HasCurrentOutputs times e (are_current outputs inputs)
  untimed : LacksOneTime times (outputs_of e ++ counted_inputs_of e) → HasCurrentOutputs times e false

-- ---- one edge

-- an edge has a value of a variable that is not empty
abbrev pub has_value : List ReadStatement → (edge : ℕ) → (name : List ℕ) → Bool
has_value entries edge name = not (length (late_text_of entries edge name) == 0)

-- the command of an edge is new, and Ninja would run it for that: not where the edge has a value of `generator`
abbrev pub runs_anew : List ReadStatement → (commands : List ℕ) → (edge : ℕ) → Bool
runs_anew entries commands edge = is_one_of commands edge && not (has_generator entries edge)

-- The inputs that builds discovered for an edge are not all known. Where they were not joined, those of an edge with `deps` or a `depfile`
-- are not.
abbrev pub hides_inputs : DiscoveredGraph → List ReadStatement → (edge : ℕ) → Bool
hides_inputs known entries edge =
    if known.has_discovered then is_one_of (map (λ other. other.0) known.unknown.items) edge
    else has_value entries edge (codes "depfile") || has_value entries edge (codes "deps")

-- Whether Ninja has nothing to do for an edge, where the given commands are new. A phony edge has no command.
pub data IsSettledEdge (known : DiscoveredGraph) (entries : List ReadStatement) (times : DeclaredTimes) (commands : List ℕ) (edge : ℕ)
    : Bool → Type 0 where
  phony : (edge_at (edges_of known.graph) edge).is_phony ≡ true → IsSettledEdge known entries times commands edge true
  unclear : (edge_at (edges_of known.graph) edge).is_phony ≡ false
      → runs_anew entries commands edge || hides_inputs known entries edge ≡ true
      → IsSettledEdge known entries times commands edge false
  by_times : {is : Bool} → (edge_at (edges_of known.graph) edge).is_phony ≡ false
      → runs_anew entries commands edge || hides_inputs known entries edge ≡ false
      → HasCurrentOutputs times (edge_at (edges_of known.graph) edge) is → IsSettledEdge known entries times commands edge is

-- ---- all edges

-- whether Ninja has nothing to do for any of the edges in question, where the given commands are new
pub data AreSettled (known : DiscoveredGraph) (entries : List ReadStatement) (times : DeclaredTimes) (commands : List ℕ)
    (IsAsked : (edge : ℕ) → Type 0) : Bool → Type 0 where
  settled : ((edge : ℕ) → IsAsked edge → IsSettledEdge known entries times commands edge true)
      → AreSettled known entries times commands IsAsked true
  unsettled : {edge : ℕ} → IsAsked edge → IsSettledEdge known entries times commands edge false
      → AreSettled known entries times commands IsAsked false

-- Whether the manifest is up to date with all that it is made from, where the given files were opened and the given commands are new: Ninja
-- has nothing to do for an edge that makes it, or that such an edge needs.
abbrev pub Settles : DiscoveredGraph → (opened : List ℕ) → List ReadStatement → DeclaredTimes → (commands : List ℕ) → Bool → Type 0
Settles known opened entries times commands is =
    AreSettled known entries times commands (IsManifestEdge known.graph opened entries) is
