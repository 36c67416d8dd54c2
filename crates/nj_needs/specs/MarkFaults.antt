-- Why a text is not read.
use Rattle.std.specs.Prelude.{◌≡◌, ℕ, Option, None, List, codes}
use Rattle.nj_text.specs.Faults.{out_of_memory_text}
use Rattle.nj_needs.specs.declared.mark_fault.MarkFault.{MarkFault}
use Rattle.nj_needs.specs.declared.mark_fault.MarkFault.TheVariants.{BadMark, MarkOutOfRange, OutOfMemory}

-- the text has no meaning; or memory ran out, whatever the text means
abbrev pub IsReadFault : {A : Type 0} → (meant : Option A) → MarkFault → Type 0
IsReadFault meant BadMark = meant ≡ None
IsReadFault meant MarkOutOfRange = ⊥
IsReadFault meant OutOfMemory = Unit {0}

-- how it is shown
abbrev pub fault_text : MarkFault → List ℕ
fault_text BadMark = codes "bad mark"
fault_text MarkOutOfRange = codes "mark out of range"
fault_text OutOfMemory = out_of_memory_text
