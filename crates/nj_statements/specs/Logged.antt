-- Inputs that deps logs name for build statements ("Deps" in the manual).
use Rattle.std.specs.Prelude.{◌≡◌, ℕ, false, Option, Some, List, [], ◌∷◌, length}
use Rattle.nj_manifest.specs.Statements.{StatementModel, BuildModel}
use Rattle.nj_scope.specs.ReadingList.{Discovered, ReadStatement}
use Rattle.nj_edges.specs.MoreInputs.{with_inputs_added}
use Rattle.nj_statements.specs.EdgeList.{edges_read, paths_of_edges, pending_read}
use Rattle.nj_statements.specs.Joining.{and_found}

-- the inputs named for a statement: for the edge of a build statement, by its number
abbrev pub inputs_named : (named : (edge : ℕ) → List (List ℕ)) → (before : List ReadStatement) → StatementModel → List (List ℕ)
inputs_named named before (BuildModel outputs rule inputs lines) = named (length (edges_read before))
inputs_named named before item = []

-- discoveries, followed by the given inputs
abbrev pub and_inputs : Option Discovered → List (List ℕ) → Option Discovered
and_inputs found [] = found
and_inputs found (path ∷ paths) = Some (and_found found (record { outputs = []; inputs = path ∷ paths; restat = false }))

-- the statements with the inputs that are named for the edges of build statements
unfoldable pub with_inputs_named : (named : (edge : ℕ) → List (List ℕ)) → List ReadStatement → List ReadStatement
with_inputs_named named [] = []
with_inputs_named named (e ∷ before) =
    record e { discovered = and_inputs e.discovered (inputs_named named before e.item) } ∷ with_inputs_named named before

-- ---- laws

-- The inputs that are named for an edge are added to it, and nothing else changes: an edge still waits for the same dyndep
-- file.
pub record AddsToEachEdge (named : (edge : ℕ) → List (List ℕ)) (entries : List ReadStatement) : Type 0 where
  pub edges : paths_of_edges (edges_read (with_inputs_named named entries))
      ≡ with_inputs_added named 0 (paths_of_edges (edges_read entries))
  pub pending : pending_read (with_inputs_named named entries) ≡ pending_read entries

-- named inputs are added to their edges, and nothing else changes
abbrev pub NamedInputsAreAdded : Type 0
NamedInputsAreAdded = (named : (edge : ℕ) → List (List ℕ)) (entries : List ReadStatement) → AddsToEachEdge named entries
