-- How faults are shown.
use Rattle.std.specs.Prelude.{ℕ, List, ◌++◌, codes, decimal}
use Rattle.nj_deps.specs.declared.log_fault.DepsLogFault.{DepsLogFault}
use Rattle.nj_deps.specs.declared.log_fault.DepsLogFault.TheVariants.{NoDepsLog, OtherVersion, OutOfMemory}

-- the text of a fault
abbrev pub fault_text : DepsLogFault → List ℕ
fault_text NoDepsLog = codes "not a deps log"
fault_text (OtherVersion version) = codes "deps log of version " ++ decimal version
fault_text OutOfMemory = codes "out of memory"
