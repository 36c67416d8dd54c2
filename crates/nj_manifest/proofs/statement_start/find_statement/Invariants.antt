use Rattle.std.proofs.Common.{◌≡◌}
use Rattle.nj_manifest.specs.Statements.{lines_from}
use Rattle.nj_manifest.specs.Openings.{opening}
use Rattle.nj_manifest.specs.Inside.ParserContracts.{IsBetweenStatements}
use Rattle.nj_manifest.proofs.Starts.{lines_ahead}
use Rattle.nj_manifest.proofs.statement_start.find_statement.Given as goal

abbrev pub invariant-lines : goal.invariant-lines
invariant-lines l = IsBetweenStatements l.lexer
    × (opening (lines_from l.lexer) ≡ opening (lines_from l.fn.lexer))

abbrev pub decreases-lines : goal.decreases-lines
decreases-lines l = lines_ahead l.lexer
