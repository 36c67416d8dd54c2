-- Inputs that a deps log names for edges that do not declare them.
use Rattle.std.specs.Prelude.{◌≡◌, ◌≢◌, ◌⊎◌, ◌<◌, ℕ, ℤ, List, All, length, map}
use Rattle.nj_deps.specs.Logs.{LogModel, IsLogOf}
use Rattle.nj_scope.specs.ReadingList.{ReadStatement}
use Rattle.nj_graph.specs.declared.undeclared.UndeclaredInput.{UndeclaredInput}
use Rattle.nj_graph.specs.Graph.{GraphModel, IsGraphOf, files_of}
use Rattle.nj_graph.specs.Undeclared.{AreUndeclared, input_of_edge}
use Rattle.nj_c.specs.declared.undeclared_inputs.EdgeInput.{EdgeInput}
use Rattle.nj_c.specs.declared.status.Status.TheVariants.{Done, BadLog, OutOfMemory}
use Rattle.nj_c.specs.Buffers.{filled}
use Rattle.nj_c.specs.JoinedLogs.{IsNoLog}
use Rattle.nj_c.specs.Statuses.{code_of}

-- an input of an edge, by numbers
abbrev pub numbered_input : UndeclaredInput → EdgeInput
numbered_input input = record { edge = input.edge.0; file = input.file.0 }

-- the inputs that a log names for edges of a graph that do not declare them
abbrev pub AreUndeclaredIn : GraphModel → LogModel → List UndeclaredInput → Type 0
AreUndeclaredIn g log inputs = All (λ input. input.file.0 < length (files_of g)) inputs
    × ((stated : List ReadStatement) → IsGraphOf g stated → AreUndeclared log stated (map (input_of_edge (files_of g)) inputs))

-- as many of the inputs as fit were written to a buffer, and their number was returned
abbrev pub GivesInputs : GraphModel → LogModel → (before after : List EdgeInput) → (count : ℕ) → ℤ → Type 0
GivesInputs g log before after count result =
    (inputs : List UndeclaredInput) × AreUndeclaredIn g log inputs
    × (result ≡ code_of Done) × (count ≡ length inputs) × (after ≡ filled (map numbered_input inputs) before)

-- the same by the log in the given bytes; or they are not a deps log; or an allocation failed
abbrev pub GivesUndeclared : GraphModel → (bytes : List ℕ) → (before after : List EdgeInput) → (count : ℕ) → ℤ → Type 0
GivesUndeclared g bytes before after count result =
    ((log : LogModel) × IsLogOf bytes log × GivesInputs g log before after count result)
    ⊎ ((result ≡ code_of BadLog) × IsNoLog bytes)
    ⊎ (result ≡ code_of OutOfMemory)

-- a buffer is written only by a call that succeeded
abbrev pub InputsKeptUnlessDone : (before after : List EdgeInput) → ℤ → Type 0
InputsKeptUnlessDone before after result = result ≢ code_of Done → after ≡ before
