-- Laws of the state of a build.
use Rattle.std.specs.Prelude.{◌≡◌, ℕ, ◌<◌, ◌↔◌, true, None, Some, List, length, slice_get}
use Rattle.nj_cycles.specs.Cycles.{IsAcyclic}
use Rattle.nj_edges.specs.Edges.{edge_at, counted_inputs_of, maker_of}
use Rattle.nj_edges.specs.Needs.{makers_of_inputs}
use Rattle.nj_stale.specs.States.{Evidence, State, IsStateOf, is_missing, is_stale}
use Rattle.nj_stale.specs.declared.reason.Reason.{Reason}
use Rattle.nj_stale.specs.declared.reason.Reason.TheVariants.{StaleInput}

-- no edge needs itself, directly or indirectly
abbrev pub HasNoCycle : Evidence → Type 0
HasNoCycle known = IsAcyclic (makers_of_inputs known.edges) (length known.edges)

-- two states agree on each edge and on each file
pub record Agree (known : Evidence) (s t : State) : Type 0 where
  pub edge : (edge : ℕ) → edge < length known.edges → s.reason edge ≡ t.reason edge
  pub file : (path : List ℕ) → s.time path ≡ t.time path

-- a build without cycles has a state
abbrev pub SomeStateFits : Type 0
SomeStateFits = (known : Evidence) → HasNoCycle known → (s : State) × IsStateOf known s

-- and it has no other
abbrev pub OneStateFits : Type 0
OneStateFits = (known : Evidence) (s t : State) → HasNoCycle known → IsStateOf known s → IsStateOf known t → Agree known s t

-- a reason that is not an input: an unknown discovery, an output, or what the log says of an output
abbrev pub IsOwnReason : Reason → Type 0
IsOwnReason reason = (place : ℕ) → ¬ (reason ≡ StaleInput place)

-- A chain of reasons. It ends at an edge with a reason of its own, or at a missing source.
pub data IsBlamed (known : Evidence) (s : State) : (edge : ℕ) → Type 0 where
  by_itself : {edge : ℕ} (reason : Reason) → s.reason edge ≡ Some reason → IsOwnReason reason → IsBlamed known s edge
  by_source : {edge : ℕ} (place : ℕ) (path : List ℕ) → s.reason edge ≡ Some (StaleInput place)
      → slice_get (counted_inputs_of (edge_at known.edges edge)) place ≡ Some path → maker_of known.edges path ≡ None
      → is_missing known path ≡ true → IsBlamed known s edge
  by_edge : {edge : ℕ} (place : ℕ) (path : List ℕ) (maker : ℕ) → s.reason edge ≡ Some (StaleInput place)
      → slice_get (counted_inputs_of (edge_at known.edges edge)) place ≡ Some path → maker_of known.edges path ≡ Some maker
      → IsBlamed known s maker → IsBlamed known s edge

-- exactly the stale edges have a chain of reasons
abbrev pub StaleEdgesHaveReasons : Type 0
StaleEdgesHaveReasons = (known : Evidence) (s : State) → HasNoCycle known → IsStateOf known s
    → (edge : ℕ) → edge < length known.edges → (is_stale s edge ≡ true) ↔ IsBlamed known s edge
