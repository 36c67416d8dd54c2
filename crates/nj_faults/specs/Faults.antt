-- Why files do not make a graph, or why a request about their graph has no answer: the place and the cause of a fault.
use Rattle.std.specs.Prelude.{◌≡◌, ◌⊎◌, ℕ, Option, Some, None, List}
use Rattle.nj_text.specs.declared.spot.Spot.{Spot}
use Rattle.nj_manifest.specs.Faults.{Fault, Placed, OutOfMemory}
use Rattle.nj_faults.specs.declared.fault.GraphFault.{GraphFault}
use Rattle.nj_faults.specs.declared.fault.Cause.{Cause}
use Rattle.nj_faults.specs.declared.fault.Cause.TheVariants as cause

-- a fault of this cause at a place of a file
abbrev pub fault_at : (file : List ℕ) → Spot → Cause → GraphFault
fault_at file spot cause = record { place = Some (record { file = file; spot = spot }); cause = cause }

-- a fault without a location
abbrev pub unplaced : Cause → GraphFault
unplaced cause = record { place = None; cause = cause }

-- out of memory
abbrev pub no_memory : GraphFault
no_memory = unplaced cause.OutOfMemory

-- the fault is the expected one, or out of memory
abbrev pub IsFault : Option GraphFault → GraphFault → Type 0
IsFault expected fault = (fault ≡ no_memory) ⊎ (expected ≡ Some fault)

-- ---- the faults of a text

-- the fault that the parser reports of its text
abbrev pub fault_in : (file : List ℕ) → Fault → GraphFault
fault_in file (Placed spot what) = fault_at file spot (cause.Syntax what)
fault_in file OutOfMemory = no_memory
