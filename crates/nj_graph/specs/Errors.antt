-- The errors that a client of this crate gets in place of results.
use Rattle.std.specs.Prelude.{◌≡◌, ◌⊎◌, ℕ, List, codes}
use Rattle.nj_text.specs.declared.paths.TextFault.{TextFault}
use Rattle.nj_text.specs.declared.paths.TextFault.TheVariants as text
use Rattle.nj_text.specs.Faults.{out_of_memory_text}
use Rattle.nj_faults.specs.declared.fault.GraphFault.{GraphFault}
use Rattle.nj_faults.specs.declared.fault.Cause.TheVariants as cause
use Rattle.nj_faults.specs.FaultLines.{shown_line}
use Rattle.nj_graph.specs.declared.error.Error.{Error}
use Rattle.nj_graph.specs.declared.error.Error.TheVariants.{Graph, EmptyPath, OutOfMemory}

-- a fault of files or of their graph is an error of its own, except for lack of memory
abbrev pub TakesFault : GraphFault → Error → Type 0
TakesFault fault error =
    ((fault.cause ≡ cause.OutOfMemory) × (error ≡ OutOfMemory)) ⊎ (¬ (fault.cause ≡ cause.OutOfMemory) × (error ≡ Graph fault))

-- so is an error of a path
abbrev pub error_of_text : TextFault → Error
error_of_text text.EmptyPath = EmptyPath
error_of_text text.OutOfMemory = OutOfMemory

-- how it is shown to people
abbrev pub error_text : Error → List ℕ
error_text (Graph fault) = shown_line fault
error_text EmptyPath = codes "empty path"
error_text OutOfMemory = out_of_memory_text
