-- The reading unless there is a fault.
use Rattle.std.specs.Prelude.{Option, List}
use Rattle.nj_scope.specs.ReadingList.{ReadStatement}
use Rattle.nj_faults.specs.declared.fault.GraphFault.{GraphFault}
use Rattle.nj_graph.specs.Reading.{ReadingModel, continued, end_by}

abbrev pub unless_fault : Option GraphFault → (before : List ReadStatement) → ReadingModel → ReadingModel
unless_fault fault before reading = continued (end_by fault) before (λ _. reading)
