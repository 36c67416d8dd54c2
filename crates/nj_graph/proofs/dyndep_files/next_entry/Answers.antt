use Rattle.nj_graph.proofs.Compared.{entry-reported}
use Rattle.nj_graph.proofs.dyndep_files.next_entry.Goals as goal

pub returns-in_ok-of_text-in-Err : goal.returns-in_ok-of_text-in-Err
returns-in_ok-of_text-in-Err c =
    entry-reported c.args.name.now c.args.parser.now c.next_entry.new.self c.in-Err.fault
    c.in_ok-of_text-in-Err.field-0
    c.in-Err.ensures c.in_ok-of_text-in-Err.ensures
