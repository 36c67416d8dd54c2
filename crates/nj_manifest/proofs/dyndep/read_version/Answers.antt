use Rattle.std.proofs.Common.{subst, Ok}
use Rattle.nj_manifest.specs.Inside.ParserContracts.{FindsOpening}
use Rattle.nj_manifest.proofs.Handed.{handed}
use Rattle.nj_manifest.proofs.DyndepCalls.{version-no_opening, version-at_end, version-read}
use Rattle.nj_manifest.proofs.dyndep.read_version.Goals as goal

pub returns-in_err-find_statement : goal.returns-in_err-find_statement
returns-in_err-find_statement c =
    let f = c.in_err-find_statement.field-0.0 in
    rw (handed f c.from_residual.result c.from_residual.ensures)
    (version-no_opening f c.args.lexer.now c.find_statement.new.lexer c.in_err-find_statement.ensures)

pub returns-then-branch : goal.returns-then-branch
returns-then-branch c =
    let found = subst (λ t. FindsOpening c.args.lexer.now c.find_statement.new.lexer (Ok t)) c.if-branch.true
    c.in_ok-find_statement.ensures in
    version-read c.args.lexer.now c.find_statement.new.lexer c.version_line.new.lexer c.version_line.result
    found c.version_line.ensures

pub returns : goal.returns
returns c =
    let found = subst (λ t. FindsOpening c.args.lexer.now c.find_statement.new.lexer (Ok t)) c.if-branch.false
    c.in_ok-find_statement.ensures in
    version-at_end c.args.lexer.now c.find_statement.new.lexer c.spot.result found c.spot.ensures
