use Rattle.std.proofs.Common.{rules, sym, w32, ◌∙◌}
use mir.Val.{SFits}
use Rattle.nj_c.proofs.OneAnswerCalls.{text-of-part}
use Rattle.nj_c.proofs.OneAnswerGraphs.{graph_in, wanted_at}
use Rattle.nj_c.proofs.OneAnswerLemmas.{passed}
use Rattle.nj_c.specs.OneAnswer.{SameBuffer}
use Rattle.nj_c.proofs.one_answer.lists.wanted_twice.Goals as goal

pub returns-clause-same : goal.returns-clause-same
returns-clause-same c =
    let fits : SFits w32 c.nx_wanted.result = search rules in
    let fits2 : SFits w32 c.nx_wanted-2.result = search rules in
    passed (λ r s. SameBuffer r s c.nx_wanted.new.buffer c.nx_wanted-2.new.buffer c.nx_wanted.new.needed
    c.nx_wanted-2.new.needed) fits fits2 (text-of-part c.args.one.now.kept c.args.other.now.kept
    c.requires.kept c.nx_wanted.result c.nx_wanted-2.result c.args.buffer.now c.args.buffer_other.now
    c.nx_wanted.new.buffer c.nx_wanted-2.new.buffer c.nx_wanted.new.needed c.nx_wanted-2.new.needed
    c.requires.buffer c.nx_wanted.ensures.buffer c.nx_wanted-2.ensures.buffer (wanted_at c.args.index) (λ
    path. path) c.nx_wanted.ensures.path c.nx_wanted-2.ensures.path)

pub returns-clause-kept : goal.returns-clause-kept
returns-clause-kept c =
    c.nx_wanted.ensures.kept ∙ c.requires.kept ∙ sym c.nx_wanted-2.ensures.kept
