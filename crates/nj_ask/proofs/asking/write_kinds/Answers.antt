use Rattle.nj_ask.specs.Asks.{IsText}
use Rattle.nj_ask.specs.Audits.{kind_lines}
use Rattle.nj_ask.proofs.EndingLemmas.{ends-concluded, returns-delivered}
use Rattle.nj_ask.proofs.asking.write_kinds.Goals as goal

pub returns : goal.returns
returns g c =
    ends-concluded (IsText kind_lines) _ _ c.deliver-told.result c.conclude.result
    (returns-delivered (IsText kind_lines) c.list_kinds.result _ _ c.deliver-told.result c.list_kinds.ensures
    c.deliver-told.ensures)
    c.conclude.ensures
