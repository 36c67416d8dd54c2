-- The files that the inputs of an edge stand for: a file that a phony edge makes ("The phony rule" in the Ninja manual) stands for the
-- inputs of that edge.
use Rattle.std.specs.Prelude.{◌≡◌, ◌≤◌, ◌⊎◌, ◌↔◌, ℕ, zero, suc, ◌+◌, if◌then◌else◌, Option, Some, None, option_and_then, unwrap_or}
use Rattle.std.specs.Prelude.{List, [], Contains, fold, length, slice_get}
use Rattle.nj_names.specs.NameTables.{with_name}
use Rattle.nj_graph.specs.Edges.{EdgePaths, edge_at, inputs_of, maker_of}

-- ---- one file

-- the inputs of an edge, if it is phony
abbrev pub phony_inputs : List EdgePaths → (edge : ℕ) → Option (List (List ℕ))
phony_inputs edges edge = if (edge_at edges edge).is_phony then Some (inputs_of (edge_at edges edge)) else None

-- the inputs of the phony edge that makes a file, if a phony edge makes it
abbrev pub behind : List EdgePaths → (path : List ℕ) → Option (List (List ℕ))
behind edges path = option_and_then (phony_inputs edges) (maker_of edges path)

-- a file leads to another through phony edges, and so to itself
pub data LeadsTo (edges : List EdgePaths) : (path other : List ℕ) → Type 0 where
  itself : {path : List ℕ} → LeadsTo edges path path
  through : {path input other : List ℕ} {inputs : List (List ℕ)} → behind edges path ≡ Some inputs → Contains inputs input
      → LeadsTo edges input other → LeadsTo edges path other

-- ---- a walk

-- the files behind the file at a place
abbrev pub behind_at : List EdgePaths → (found : List (List ℕ)) → (place : ℕ) → List (List ℕ)
behind_at edges found place = unwrap_or (option_and_then (behind edges) (slice_get found place)) []

-- files, and after them all to which they lead from a place on, without duplicates: first the files behind the file at the place, and so on, until no
-- place is left. There are as many turns as files.
abbrev pub walked : List EdgePaths → (turns place : ℕ) → (found : List (List ℕ)) → List (List ℕ)
walked edges zero place found = found
walked edges (suc turns) place found = walked edges turns (place + 1) (fold with_name found (behind_at edges found place))

-- files that were found, and after them the files to which more files lead, without duplicates
abbrev pub with_led : List EdgePaths → (turns : ℕ) → (found more : List (List ℕ)) → List (List ℕ)
with_led edges turns found more = walked edges turns (length found) (fold with_name found more)

-- ---- the law of the walk

-- the files to which given files lead are among them
abbrev pub IsClosed : List EdgePaths → (found : List (List ℕ)) → Type 0
IsClosed edges found = (path input : List ℕ) (inputs : List (List ℕ)) → Contains found path → behind edges path ≡ Some inputs
    → Contains inputs input → Contains found input

-- If there are as many turns as files, the walk finds exactly the files that were found before and those to which the new ones lead.
abbrev pub WalkFindsAllThatIsLedTo : Type 0
WalkFindsAllThatIsLedTo = (edges : List EdgePaths) (turns : ℕ) (found more : List (List ℕ)) → IsClosed edges found
    → length (with_led edges turns found more) ≤ length found + turns → (path : List ℕ)
    → Contains (with_led edges turns found more) path
    ↔ (Contains found path ⊎ ((start : List ℕ) × Contains more start × LeadsTo edges start path))
