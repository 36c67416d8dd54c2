-- How faults are shown.
use Rattle.std.specs.Prelude.{ℕ, List, codes}
use Rattle.nj_depfiles.specs.declared.depfile_fault.DepfileFault.{DepfileFault}
use Rattle.nj_depfiles.specs.declared.depfile_fault.DepfileFault.TheVariants.{InputHasInputs, NoColon, OutOfMemory}

-- the words of Ninja
abbrev pub fault_text : DepfileFault → List ℕ
fault_text NoColon = codes "expected ':' in depfile"
fault_text InputHasInputs = codes "inputs may not also have inputs"
fault_text OutOfMemory = codes "out of memory"
