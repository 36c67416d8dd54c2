use Rattle.nj_statements.proofs.AssignedLemmas.{numbered-next}
use Rattle.nj_statements.proofs.string_numbers.string_number.Goals as goal

pub returns-clause-number : goal.returns-clause-number
returns-clause-number c = numbered-next c.add.new.self c.in_ok-index.index c.in_ok-number.number
    c.args.string.now c.in_ok-number.ensures c.in_ok-index.ensures.number
