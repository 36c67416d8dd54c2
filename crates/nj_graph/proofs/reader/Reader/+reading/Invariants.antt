use Rattle.std.proofs.Common.{◌≡◌, ℕ, ◌+◌, ◌*◌, List}
use Rattle.nj_text.specs.Lines.{Line}
use Rattle.nj_manifest.specs.Statements.{Lines}
use Rattle.nj_scope.specs.ReadingList.{ReadStatement}
use Rattle.nj_graph.specs.Inside.ReaderContracts.{Has, Grows, IsOpenIn, site_of}
use Rattle.nj_graph.proofs.Turns.{Underway, lines_left}
use Rattle.nj_graph.proofs.reader.Reader.+reading.Given as goal

abbrev pub decreases-read_text : goal.decreases-read_text
decreases-read_text g l = 2 * l.file.left + 1

abbrev pub decreases-read_statement : goal.decreases-read_statement
decreases-read_statement g l = 2 * l.file.left

abbrev pub invariant-read_text-statements : goal.invariant-read_text-statements
invariant-read_text-statements g l =
    Grows l.initial.self.declarations.scopes l.self.declarations.scopes
    × (lines : List Line) × (l.parser ≡ Lines lines)
    × ((main : List ℕ) (entries : List ReadStatement) (around : List ℕ) (depth : ℕ)
    → Has main l.initial.self entries → IsOpenIn l.initial.self l.file around
    → Underway main (g.S.FileSource.state l.initial.source) (g.S.FileSource.state l.source)
    l.initial.self l.self l.file.left (site_of l.file around depth) l.text entries lines)

abbrev pub decreases-read_text-statements : goal.decreases-read_text-statements
decreases-read_text-statements g l = lines_left l.parser
