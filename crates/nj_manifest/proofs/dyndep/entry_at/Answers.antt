use Rattle.nj_manifest.proofs.Handed.{handed}
use Rattle.nj_manifest.proofs.DyndepCalls.{entry-no_line, entry-no_block, entry-read}
use Rattle.nj_manifest.proofs.dyndep.entry_at.Goals as goal

pub returns-in_err-entry : goal.returns-in_err-entry
returns-in_err-entry c =
    let f = c.in_err-entry.field-0.0 in
    rw (handed f c.from_residual.result c.from_residual.ensures)
    (entry-no_line c.args.lexer.now c.entry_line.new.lexer f c.in_err-entry.ensures)

pub returns-in_err-restat : goal.returns-in_err-restat
returns-in_err-restat c =
    let f = c.in_err-restat.field-0.0 in
    rw (handed f c.from_residual-in_err-restat.result c.from_residual-in_err-restat.ensures)
    (entry-no_block c.args.lexer.now c.entry_line.new.lexer c.restat_block.new.lexer c.in_ok-entry.entry f
    c.in_ok-entry.ensures c.in_err-restat.ensures)

pub returns : goal.returns
returns c =
    entry-read c.args.lexer.now c.entry_line.new.lexer c.restat_block.new.lexer c.in_ok-entry.entry
    c.in_ok-restat.restat c.in_ok-entry.ensures c.in_ok-restat.ensures
