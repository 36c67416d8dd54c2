use Rattle.std.proofs.Common.{◌≡◌, Bool, List, Some, slice_get}
use Rattle.nj_text.specs.Lines.{Line}
use Rattle.nj_manifest.specs.Inside.ParserContracts.{left_by}
use Rattle.nj_scope.specs.Readings.{IsPrefix}
use Rattle.nj_scope.specs.ReadingList.{ReadStatement}
use Rattle.nj_statements.specs.JoiningHeld.{HasJoined}
use Rattle.nj_graph.proofs.JoiningStrings.{TextUnderway, lines_to_come}
use Rattle.nj_graph.proofs.dyndep_files.join_text.Given as goal

abbrev pub invariant-entries : goal.invariant-entries
invariant-entries l =
    (version_read : Bool) × (lines : List Line) × (l.parser ≡ left_by version_read lines)
    × (slice_get l.joining.table.files l.file.0 ≡ Some l.name)
    × IsPrefix l.initial.joining.table.files l.joining.table.files
    × (l.joining.dyndep_files ≡ l.initial.joining.dyndep_files)
    × ((stated joined : List ReadStatement) → HasJoined l.initial.joining stated joined
    → TextUnderway l.name stated l.text joined l.joining version_read lines)

abbrev pub decreases-entries : goal.decreases-entries
decreases-entries l = lines_to_come l.parser
