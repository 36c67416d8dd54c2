-- How faults of depfiles are shown.
use Rattle.std.specs.Prelude.{ℕ, List, ◌++◌, codes}
use Rattle.nj_depfiles.specs.Faults as depfile
use Rattle.nj_discovered.specs.declared.verdict.DepfileError.{DepfileError}
use Rattle.nj_discovered.specs.declared.verdict.DepfileError.TheVariants.{Unreadable, Depfile, NoTarget, NoSuchOutput}

-- the text of a fault about a target that no edge declares
abbrev pub stranger_text : (target : List ℕ) → List ℕ
stranger_text target = codes "depfile mentions '" ++ target ++ codes "' as an output, but no such output was declared"

-- the words of Ninja
abbrev pub error_text : DepfileError → List ℕ
error_text Unreadable = codes "it cannot be read"
error_text (Depfile fault) = depfile.fault_text fault
error_text NoTarget = codes "no outputs declared"
error_text (NoSuchOutput target) = stranger_text target
