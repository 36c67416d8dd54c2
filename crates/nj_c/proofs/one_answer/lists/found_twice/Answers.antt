use Rattle.std.proofs.Common.{rules, sym, w32, ◌∙◌, ◌≡◌}
use mir.Val.{SFits}
use Rattle.nj_c.proofs.OneAnswerCalls.{value-of-part}
use Rattle.nj_c.proofs.OneAnswerGraphs.{found_at}
use Rattle.nj_c.proofs.OneAnswerLemmas.{passed}
use Rattle.nj_c.specs.OneAnswer.{SameAnswer}
use Rattle.nj_c.proofs.one_answer.lists.found_twice.Goals as goal

pub returns-clause-same : goal.returns-clause-same
returns-clause-same c =
    let fits : SFits w32 c.nx_found.result = search rules in
    let fits2 : SFits w32 c.nx_found-2.result = search rules in
    passed (λ r s. SameAnswer r s (c.nx_found.new.edge ≡ c.nx_found-2.new.edge)) fits fits2 (value-of-part
    c.args.one.now.kept c.args.other.now.kept c.requires c.nx_found.result c.nx_found-2.result (found_at
    c.args.index) (λ n. n) c.nx_found.new.edge c.nx_found-2.new.edge c.nx_found.ensures.edge
    c.nx_found-2.ensures.edge)

pub returns-clause-kept : goal.returns-clause-kept
returns-clause-kept c =
    c.nx_found.ensures.kept ∙ c.requires ∙ sym c.nx_found-2.ensures.kept
