use Rattle.std.proofs.Common.{ap, ◌∙◌}
use Rattle.nj_chosen.proofs.RowLemmas.{row-emptied}
use Rattle.nj_chosen.proofs.numbers.take_at.Goals as goal

pub returns-clause-rows : goal.returns-clause-rows
returns-clause-rows c = row-emptied c.args.rows.now.items c.args.place c.replace.new.dest
    (ap (λ row. row.items) c.replace.ensures.after ∙ c.new.ensures.items)
