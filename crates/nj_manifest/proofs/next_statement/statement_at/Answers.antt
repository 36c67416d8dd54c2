use Rattle.nj_manifest.specs.Inside.ParserContracts.{head_model}
use Rattle.nj_manifest.proofs.Handed.{handed}
use Rattle.nj_manifest.proofs.Heres.{here-ok, here-fails}
use Rattle.nj_manifest.proofs.next_statement.statement_at.Goals as goal

pub returns-in_err-item : goal.returns-in_err-item
returns-in_err-item c =
    rw (handed c.in_err-item.field-0.0 c.from_residual-in_err-item.result c.from_residual-in_err-item.ensures)
    (here-fails c.args.lexer.now c.head_next.new.lexer c.with_block.new.lexer (head_model c.in_ok-head.head)
    c.spot-spot.result c.in_err-item.field-0.0 c.spot-spot.ensures c.in_ok-head.ensures
    c.in_err-item.ensures)

pub returns : goal.returns
returns c =
    here-ok c.args.lexer.now c.head_next.new.lexer c.with_block.new.lexer (head_model c.in_ok-head.head)
    c.spot-spot.result c.in_ok-item.item c.spot-spot.ensures c.in_ok-head.ensures c.in_ok-item.ensures
