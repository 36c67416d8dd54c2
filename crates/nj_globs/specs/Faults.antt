-- How faults are shown.
use Rattle.std.specs.Prelude.{ℕ, List, ◌++◌, codes, decimal}
use Rattle.nj_globs.specs.declared.glob_fault.GlobFault.{GlobFault}
use Rattle.nj_globs.specs.declared.glob_fault.GlobFault.TheVariants.{UnclosedSet, BackslashAtEnd, ReversedRange, OutOfMemory}

-- the text of a fault
abbrev pub fault_text : GlobFault → List ℕ
fault_text (UnclosedSet at) = codes "an unclosed [ at byte " ++ decimal at
fault_text (BackslashAtEnd at) = codes "a \\ at the end"
fault_text (ReversedRange at) = codes "a reversed range at byte " ++ decimal at
fault_text OutOfMemory = codes "out of memory"
