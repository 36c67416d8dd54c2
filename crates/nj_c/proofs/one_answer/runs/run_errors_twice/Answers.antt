use Rattle.std.proofs.Common.{rules, sym, w32, ◌∙◌}
use mir.Val.{SFits}
use Rattle.nj_c.proofs.OneAnswerCalls.{text-of-contents}
use Rattle.nj_c.proofs.OneAnswerGraphs.{errors_in}
use Rattle.nj_c.proofs.OneAnswerLemmas.{passed}
use Rattle.nj_c.specs.OneAnswer.{SameBuffer}
use Rattle.nj_c.proofs.one_answer.runs.run_errors_twice.Goals as goal

pub returns-clause-same : goal.returns-clause-same
returns-clause-same c =
    let fits : SFits w32 c.nx_run_errors.result = search rules in
    let fits2 : SFits w32 c.nx_run_errors-2.result = search rules in
    passed (λ r s. SameBuffer r s c.nx_run_errors.new.buffer c.nx_run_errors-2.new.buffer
    c.nx_run_errors.new.needed c.nx_run_errors-2.new.needed) fits fits2 (text-of-contents c.args.one.now.kept
    c.args.other.now.kept c.requires.kept c.nx_run_errors.result c.nx_run_errors-2.result c.args.buffer.now
    c.args.buffer_other.now c.nx_run_errors.new.buffer c.nx_run_errors-2.new.buffer c.nx_run_errors.new.needed
    c.nx_run_errors-2.new.needed c.requires.buffer c.nx_run_errors.ensures.buffer
    c.nx_run_errors-2.ensures.buffer
    errors_in c.nx_run_errors.ensures.text c.nx_run_errors-2.ensures.text)

pub returns-clause-kept : goal.returns-clause-kept
returns-clause-kept c =
    c.nx_run_errors.ensures.kept ∙ c.requires.kept ∙ sym c.nx_run_errors-2.ensures.kept
