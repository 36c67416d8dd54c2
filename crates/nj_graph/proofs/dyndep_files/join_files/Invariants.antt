use Rattle.std.proofs.Common.{◌≡◌, List, drop}
use Rattle.nj_scope.specs.Readings.{EachPathOnce}
use Rattle.nj_scope.specs.ReadingList.{ReadStatement}
use Rattle.nj_statements.specs.JoiningHeld.{HasJoined}
use Rattle.nj_graph.specs.Inside.JoiningContracts.{chosen_files}
use Rattle.nj_graph.proofs.JoiningRuns.{FilesUnderway}
use Rattle.nj_graph.proofs.dyndep_files.join_files.Given as goal

abbrev pub invariant-files : goal.invariant-files
invariant-files g l =
    (l.joining.dyndep_files ≡ l.initial.joining.dyndep_files)
    × EachPathOnce l.files
    × ((stated : List ReadStatement) → HasJoined l.initial.joining stated stated
    → FilesUnderway (chosen_files l.initial.joining.dyndep_files l.chosen) stated
    (g.S.FileSource.state l.initial.source) (g.S.FileSource.state l.source)
    l.initial.files l.files l.joining (chosen_files l.initial.joining.dyndep_files
    (drop l.index-index l.chosen)))
