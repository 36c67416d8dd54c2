use Rattle.nj_chosen.proofs.RowLemmas.{row-pushed}
use Rattle.nj_chosen.proofs.numbers.push_at.Goals as goal

pub returns-clause-rows : goal.returns-clause-rows
returns-clause-rows c = row-pushed c.args.rows.now.items c.args.place c.args.number c.index_mut.result.now
    c.push.new.self c.requires c.index_mut.ensures.value c.in_ok-push.ensures.items
