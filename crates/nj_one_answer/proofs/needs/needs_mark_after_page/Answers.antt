use Rattle.std.proofs.Common.{[], ap, sym, ◌∙◌}
use Rattle.nj_needs.specs.PageWalks.{written}
use Rattle.nj_agreement.proofs.NeedsAnswers.{at-once, ends-agree}
use Rattle.nj_one_answer.proofs.needs.needs_mark_after_page.Goals as goal

pub returns : goal.returns
returns c =
    let one = c.args.one.now in
    let other = c.args.other.now in
    let room = c.args.room in
    let same = c.requires.same in
    ends-agree one other room same c.requires.ended c.mark_after_page.result c.mark_after_page-2.result
    (c.mark_after_page.ensures one room [] (at-once one room) c.requires.ended)
    (c.mark_after_page-2.ensures other room [] (at-once other room)
    (ap (written room) (sym same.left) ∙ c.requires.ended))
