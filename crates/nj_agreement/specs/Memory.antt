-- The errors that report out of memory, or a failure outside the library.
use Rattle.std.specs.Prelude.{◌≡◌, ◌⊎◌, ℕ, Some, List}
use Rattle.nj_deps.specs.declared.log_fault.DepsLogFault.{DepsLogFault}
use Rattle.nj_deps.specs.declared.log_fault.DepsLogFault.TheVariants as log
use Rattle.nj_needs.specs.declared.mark_fault.MarkFault.{MarkFault}
use Rattle.nj_needs.specs.declared.mark_fault.MarkFault.TheVariants as mark
use Rattle.nj_faults.specs.declared.fault.Place.{Place}
use Rattle.nj_faults.specs.declared.fault.GraphFault.{GraphFault}
use Rattle.nj_faults.specs.declared.fault.Cause.TheVariants.{Io}
use Rattle.nj_faults.specs.Faults.{no_memory}

-- of the reading of a deps log
abbrev pub IsLogOutOfMemory : DepsLogFault → Type 0
IsLogOutOfMemory fault = fault ≡ log.OutOfMemory

-- of marks
abbrev pub IsMarkOutOfMemory : MarkFault → Type 0
IsMarkOutOfMemory fault = fault ≡ mark.OutOfMemory

-- of graphs
abbrev pub IsGraphOutOfMemory : GraphFault → Type 0
IsGraphOutOfMemory fault = fault ≡ no_memory

-- the same, or that a file could not be read
abbrev pub IsUnread : GraphFault → Type 0
IsUnread fault = (fault ≡ no_memory) ⊎ ((place : Place) × (path : List ℕ) × (fault ≡ record { place = Some place; cause = Io path }))
