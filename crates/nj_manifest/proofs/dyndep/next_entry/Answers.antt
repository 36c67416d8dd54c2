use Rattle.std.proofs.Common.{subst, refl, option_map, Ok}
use Rattle.nj_manifest.specs.Inside.ParserContracts.{FindsOpening, entry_here}
use Rattle.nj_manifest.specs.Dyndeps.{entry_from, next_entry}
use Rattle.nj_manifest.specs.DyndepParsers.{entry_model}
use Rattle.nj_manifest.proofs.Handed.{handed}
use Rattle.nj_manifest.proofs.Nexts.{fails-opening, none-left, read-on}
use Rattle.nj_manifest.proofs.DyndepCalls.{entry-is}
use Rattle.nj_manifest.proofs.dyndep.next_entry.Goals as goal

pub returns-in_err-find_statement : goal.returns-in_err-find_statement
returns-in_err-find_statement c =
    let f = c.in_err-find_statement.field-0.0 in
    rw (handed f c.from_residual.result c.from_residual.ensures)
    (fails-opening entry_from next_entry entry-is f c.args.lexer.now c.find_statement.new.lexer
    c.in_err-find_statement.ensures)

pub returns-then-branch : goal.returns-then-branch
returns-then-branch c =
    let found = subst (λ t. FindsOpening c.args.lexer.now c.find_statement.new.lexer (Ok t)) c.if-branch.true
    c.in_ok-find_statement.ensures in
    read-on entry_from next_entry entry-is (option_map entry_model) entry_here (λ l ls. refl) c.args.lexer.now
    c.find_statement.new.lexer c.entry_at.new.lexer c.entry_at.result found c.entry_at.ensures

pub returns : goal.returns
returns c =
    let found = subst (λ t. FindsOpening c.args.lexer.now c.find_statement.new.lexer (Ok t)) c.if-branch.false
    c.in_ok-find_statement.ensures in (
      none-left entry_from next_entry entry-is (λ ls. refl) c.args.lexer.now c.find_statement.new.lexer found,
      found.1,
    )
