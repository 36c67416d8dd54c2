-- What a run reports on standard error.
use Rattle.std.specs.Prelude.{◌≡◌, ◌⊎◌, ℕ, List, ◌++◌, codes}
use Rattle.nj_tools.specs.Lines.{line}
use Rattle.nj_tools.specs.Sinks.{SinkState, Takes, FailsWithin}
use Rattle.nj_cli.specs.Answers.{Ending, finished, stopped, faulty}
use Rattle.nj_cli.specs.declared.status.Status.{Status}
use Rattle.nj_cli.specs.declared.status.Status.TheVariants.{Done, Fault, Stopped, OutputFailed}

-- the text was written once: the sink took it, or failed on the way, and nothing more was passed to it
abbrev pub Reported : (old new : SinkState) → List ℕ → Type 0
Reported old new text = Takes old new text ⊎ FailsWithin old new text

-- The report of an ending, and the status. A run that stopped and whose mark is not reported cannot be resumed.
abbrev pub Reports : Ending → (old new : SinkState) → Status → Type 0
Reports finished old new status = (new ≡ old) × (status ≡ Done)
Reports (stopped mark) old new status =
    (Takes old new (line (codes "mark " ++ mark)) × (status ≡ Stopped))
    ⊎ (FailsWithin old new (line (codes "mark " ++ mark)) × (status ≡ OutputFailed))
Reports (faulty text) old new status = Reported old new (line text) × (status ≡ Fault)
