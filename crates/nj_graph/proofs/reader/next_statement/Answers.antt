use Rattle.nj_graph.proofs.Compared.{statement-reported}
use Rattle.nj_graph.proofs.reader.next_statement.Goals as goal

pub returns-in_ok-of_text-in-Err : goal.returns-in_ok-of_text-in-Err
returns-in_ok-of_text-in-Err c =
    statement-reported c.args.file.name.now c.args.parser.now c.next_statement.new.self c.in-Err.fault
    c.in_ok-of_text-in-Err.field-0
    c.in-Err.ensures c.in_ok-of_text-in-Err.ensures
