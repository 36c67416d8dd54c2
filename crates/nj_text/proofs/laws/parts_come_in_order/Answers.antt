use Rattle.nj_text.proofs.PartLaws.{parts_in_order}
use Rattle.nj_text.proofs.laws.parts_come_in_order.Goals as goal

pub returns : goal.returns
returns c = parts_in_order
