-- How a fault is shown.
use Rattle.std.specs.Prelude.{ℕ, List, codes}
use Rattle.nj_text.specs.Faults.{out_of_memory_text}
use Rattle.nj_scope.specs.declared.source.SourceFault.{SourceFault}
use Rattle.nj_scope.specs.declared.source.SourceFault.TheVariants.{Io, OutOfMemory}

-- its text
abbrev pub fault_text : SourceFault → List ℕ
fault_text Io = codes "the file could not be read"
fault_text OutOfMemory = out_of_memory_text
