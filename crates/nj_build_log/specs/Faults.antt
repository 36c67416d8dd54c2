-- How faults are shown.
use Rattle.std.specs.Prelude.{ℕ, List, ◌++◌, codes, decimal}
use Rattle.nj_build_log.specs.declared.build_log_fault.BuildLogFault.{BuildLogFault}
use Rattle.nj_build_log.specs.declared.build_log_fault.BuildLogFault.TheVariants.{NoBuildLog, OtherVersion, OutOfMemory}

-- the text of a fault
abbrev pub fault_text : BuildLogFault → List ℕ
fault_text NoBuildLog = codes "not a build log"
fault_text (OtherVersion version) = codes "build log of version " ++ decimal version
fault_text OutOfMemory = codes "out of memory"
