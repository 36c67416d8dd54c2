use Rattle.std.proofs.Common.{subst, refl, option_map, Ok}
use Rattle.nj_manifest.specs.Statements.{statement_from, next_statement}
use Rattle.nj_manifest.specs.Contents.{placed_model}
use Rattle.nj_manifest.specs.Inside.ParserContracts.{FindsOpening}
use Rattle.nj_manifest.specs.Inside.Heads.{statement_here}
use Rattle.nj_manifest.proofs.Handed.{handed}
use Rattle.nj_manifest.proofs.Nexts.{next-opens, fails-opening, none-left, read-on}
use Rattle.nj_manifest.proofs.NextTurns.{statement-steps}
use Rattle.nj_manifest.proofs.next_statement.next_statement.Goals as goal

pub returns-in_err-find_statement : goal.returns-in_err-find_statement
returns-in_err-find_statement c =
    let f = c.in_err-find_statement.field-0.0 in
    rw (handed f c.from_residual.result c.from_residual.ensures)
    (fails-opening statement_from next_statement next-opens f c.args.lexer.now c.find_statement.new.lexer
    c.in_err-find_statement.ensures)

pub returns-then-branch : goal.returns-then-branch
returns-then-branch c =
    let found = subst (λ t. FindsOpening c.args.lexer.now c.find_statement.new.lexer (Ok t)) c.if-branch.true
    c.in_ok-find_statement.ensures in
    read-on statement_from next_statement next-opens (option_map placed_model) statement_here statement-steps
    c.args.lexer.now c.find_statement.new.lexer c.statement_at.new.lexer c.statement_at.result found
    c.statement_at.ensures

pub returns : goal.returns
returns c =
    let found = subst (λ t. FindsOpening c.args.lexer.now c.find_statement.new.lexer (Ok t)) c.if-branch.false
    c.in_ok-find_statement.ensures in (
      none-left statement_from next_statement next-opens (λ ls. refl) c.args.lexer.now
          c.find_statement.new.lexer found,
      found.1,
    )
