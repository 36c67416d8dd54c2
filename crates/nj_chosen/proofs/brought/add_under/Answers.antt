use Rattle.std.proofs.Common.{ap, ◌∙◌, string_bytes}
use Rattle.nj_chosen.proofs.AnswerLemmas.{adds-next, names-more}
use Rattle.nj_chosen.proofs.brought.add_under.Goals as goal

pub names-preserved : goal.names-preserved
names-preserved c =
    adds-next _ _ c.as_bytes.result.now c.args.number c.args.numbers.now c.names.numbers c.add.new.self
    (names-more c.args.names.now c.names.name-index c.name-item.result c.as_bytes.result.now c.names-test.true
    (c.as_bytes.ensures.value ∙ ap string_bytes c.name-item.is))
    c.names.invariant c.in_ok-add.ensures
