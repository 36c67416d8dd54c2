use Rattle.std.proofs.Common.{rules, sym, w32, ◌∙◌, ◌≡◌}
use mir.Val.{SFits}
use Rattle.nj_c.proofs.OneAnswerCalls.{item-beside-graph}
use Rattle.nj_c.proofs.OneAnswerGraphs.{graph_in, log_in}
use Rattle.nj_c.proofs.OneAnswerLemmas.{passed}
use Rattle.nj_c.specs.Asking.{bool_code}
use Rattle.nj_c.specs.OneAnswer.{SameAnswer}
use Rattle.nj_c.specs.declared.session_state.LogRead.{LogRead}
use Rattle.nj_c.proofs.one_answer.logs.log_read_twice.Goals as goal

pub returns-clause-same : goal.returns-clause-same
returns-clause-same c =
    let fits : SFits w32 c.nx_log_read.result = search rules in
    let fits2 : SFits w32 c.nx_log_read-2.result = search rules in
    passed (λ r s. SameAnswer r s ((c.nx_log_read.new.size ≡ c.nx_log_read-2.new.size)
    × (c.nx_log_read.new.is_whole ≡ c.nx_log_read-2.new.is_whole))) fits fits2
    (item-beside-graph graph_in c.args.one.now.kept c.args.other.now.kept c.requires c.nx_log_read.result
    c.nx_log_read-2.result log_in
    (λ (log : LogRead). (c.nx_log_read.new.size ≡ log.size)
    × (c.nx_log_read.new.is_whole ≡ bool_code log.is_whole))
    (λ (log : LogRead). (c.nx_log_read-2.new.size ≡ log.size)
    × (c.nx_log_read-2.new.is_whole ≡ bool_code log.is_whole))
    ((c.nx_log_read.new.size ≡ c.nx_log_read-2.new.size)
    × (c.nx_log_read.new.is_whole ≡ c.nx_log_read-2.new.is_whole))
    (λ log v w. (v.0 ∙ sym w.0, v.1 ∙ sym w.1)) c.nx_log_read.ensures.read c.nx_log_read-2.ensures.read)

pub returns-clause-kept : goal.returns-clause-kept
returns-clause-kept c =
    c.nx_log_read.ensures.kept ∙ c.requires ∙ sym c.nx_log_read-2.ensures.kept
