use Rattle.std.proofs.Common.{map, rules, sym, w32, ◌∙◌}
use mir.Val.{SFits}
use Rattle.nj_c.proofs.OneAnswerCalls.{text-of-list}
use Rattle.nj_c.proofs.OneAnswerGraphs.{graph_in}
use Rattle.nj_c.proofs.OneAnswerLemmas.{passed}
use Rattle.nj_c.specs.OneAnswer.{SameBuffer}
use Rattle.nj_c.proofs.one_answer.lists.opened_twice.Goals as goal

pub returns-clause-same : goal.returns-clause-same
returns-clause-same c =
    let fits : SFits w32 c.nx_opened.result = search rules in
    let fits2 : SFits w32 c.nx_opened-2.result = search rules in
    passed (λ r s. SameBuffer r s c.nx_opened.new.buffer c.nx_opened-2.new.buffer c.nx_opened.new.needed
    c.nx_opened-2.new.needed) fits fits2 (text-of-list graph_in c.args.one.now.kept c.args.other.now.kept
    c.requires.kept c.nx_opened.result c.nx_opened-2.result c.args.buffer.now c.args.buffer_other.now
    c.nx_opened.new.buffer c.nx_opened-2.new.buffer c.nx_opened.new.needed c.nx_opened-2.new.needed
    c.requires.buffer c.nx_opened.ensures.buffer c.nx_opened-2.ensures.buffer (λ g. map (λ o. o.path)
    g.origins.openings) c.args.index c.nx_opened.ensures.path c.nx_opened-2.ensures.path)

pub returns-clause-kept : goal.returns-clause-kept
returns-clause-kept c =
    c.nx_opened.ensures.kept ∙ c.requires.kept ∙ sym c.nx_opened-2.ensures.kept
