-- Resuming: the results of `resume`.
use Rattle.std.specs.Prelude.{◌≡◌, ℕ, true, false, Result, Ok, Err, List}
use Rattle.nj_names.specs.declared.files.FileNo.{FileNo}
use Rattle.nj_edges.specs.EdgeGraphs.{EdgeGraph}
use Rattle.nj_needs.specs.Graphs.{row_of, makers_of}
use Rattle.nj_needs.specs.Marks.{is_valid}
use Rattle.nj_needs.specs.Walks.{WalkState, BeginsAt}
use Rattle.nj_needs.specs.declared.mark_fault.MarkFault.{MarkFault}
use Rattle.nj_needs.specs.declared.mark_fault.MarkFault.TheVariants.{BadMark, MarkOutOfRange, OutOfMemory}

-- the walk begins at the mark; or the mark is out of range, which is decided first; or memory ran out
abbrev pub ResumeIs : EdgeGraph → (targets : List FileNo) → (mark : List ℕ) → Result WalkState MarkFault → Type 0
ResumeIs g targets mark (Ok n) = (is_valid (makers_of g) (row_of g targets) mark ≡ true) × BeginsAt g targets mark n
ResumeIs g targets mark (Err BadMark) = ⊥
ResumeIs g targets mark (Err MarkOutOfRange) = is_valid (makers_of g) (row_of g targets) mark ≡ false
ResumeIs g targets mark (Err OutOfMemory) = is_valid (makers_of g) (row_of g targets) mark ≡ true
