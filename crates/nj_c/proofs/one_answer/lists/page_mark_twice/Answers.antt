use Rattle.std.proofs.Common.{rules, sym, w32, ◌∙◌}
use mir.Val.{SFits}
use Rattle.nj_c.proofs.OneAnswerCalls.{mark-of-contents}
use Rattle.nj_c.proofs.OneAnswerGraphs.{graph_in, mark_in}
use Rattle.nj_c.proofs.OneAnswerLemmas.{passed}
use Rattle.nj_c.specs.OneAnswer.{SameBuffer}
use Rattle.nj_c.proofs.one_answer.lists.page_mark_twice.Goals as goal

pub returns-clause-same : goal.returns-clause-same
returns-clause-same c =
    let fits : SFits w32 c.nx_page_mark.result = search rules in
    let fits2 : SFits w32 c.nx_page_mark-2.result = search rules in
    passed (λ r s. SameBuffer r s c.nx_page_mark.new.buffer c.nx_page_mark-2.new.buffer
    c.nx_page_mark.new.needed c.nx_page_mark-2.new.needed) fits fits2 (mark-of-contents c.args.one.now.kept
    c.args.other.now.kept c.requires.kept c.nx_page_mark.result c.nx_page_mark-2.result c.args.buffer.now
    c.args.buffer_other.now c.nx_page_mark.new.buffer c.nx_page_mark-2.new.buffer c.nx_page_mark.new.needed
    c.nx_page_mark-2.new.needed c.requires.buffer c.nx_page_mark.ensures.buffer
    c.nx_page_mark-2.ensures.buffer mark_in c.nx_page_mark.ensures.mark c.nx_page_mark-2.ensures.mark)

pub returns-clause-kept : goal.returns-clause-kept
returns-clause-kept c =
    c.nx_page_mark.ensures.kept ∙ c.requires.kept ∙ sym c.nx_page_mark-2.ensures.kept
