-- Chains of inputs by which files need others.
use Rattle.std.specs.Prelude.{◌≡◌, ◌≢◌, ◌⊎◌, ℕ, ℤ, Bool, true, Option, Some, None, List, map, length}
use Rattle.nj_edges.specs.declared.chains.ChainKinds.{ChainKinds}
use Rattle.nj_edges.specs.declared.chains.Step.{Step}
use Rattle.nj_edges.specs.EdgeGraphs.{EdgeGraph}
use Rattle.nj_edges.specs.Chains.{PathIs}
use Rattle.nj_c.specs.declared.paths.PathStep.{PathStep}
use Rattle.nj_c.specs.declared.status.Status.TheVariants.{Done, Nothing, OutOfMemory}
use Rattle.nj_c.specs.Asking.{step_kind_code}
use Rattle.nj_c.specs.Buffers.{filled}
use Rattle.nj_c.specs.Statuses.{code_of}

-- a step, by numbers
abbrev pub numbered_step : Step → PathStep
numbered_step s = record { edge = s.edge.0; file = s.file.0; kind = step_kind_code s.kind }

-- as many steps of a chain as fit were written to a buffer, and their number was returned; or there is no chain
abbrev pub GivesSteps : Option (List Step) → (before after : List PathStep) → (count : ℕ) → ℤ → Type 0
GivesSteps None before after count result = result ≡ code_of Nothing
GivesSteps (Some steps) before after count result =
    (result ≡ code_of Done) × (count ≡ length steps) × (after ≡ filled (map numbered_step steps) before)

-- all kinds of inputs, and validations too if they are requested
abbrev pub every_kind : (with_validations : Bool) → ChainKinds
every_kind with_validations = record { order_only = true; validations = with_validations }

-- the same for a shortest chain from a file to another, if any; or an allocation failed
abbrev pub GivesPath : EdgeGraph → (with_validations : Bool) → (from to : ℕ) → (before after : List PathStep) → (count : ℕ) → ℤ → Type 0
GivesPath g with_validations from to before after count result =
    ((path : Option (List Step)) × PathIs g (every_kind with_validations) (record { 0 = from }) (record { 0 = to }) path
    × GivesSteps path before after count result)
    ⊎ (result ≡ code_of OutOfMemory)

-- a buffer is written only by a call that succeeded
abbrev pub StepsKeptUnlessDone : (before after : List PathStep) → ℤ → Type 0
StepsKeptUnlessDone before after result = result ≢ code_of Done → after ≡ before
