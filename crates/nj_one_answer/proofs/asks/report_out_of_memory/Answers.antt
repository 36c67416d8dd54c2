use Rattle.std.proofs.Common.{sym, subst, ◌∙◌}
use Rattle.nj_ask.specs.Endings.{Reported, memory_line}
use Rattle.nj_one_answer.proofs.RunAnswers.{reports-agree}
use Rattle.nj_one_answer.proofs.asks.report_out_of_memory.Goals as goal

pub returns-clause-sinks : goal.returns-clause-sinks
returns-clause-sinks g c = let state = g.E.Sink.state in
    reports-agree (state c.args.one.now) (state c.report_out_of_memory.new.err)
    (state c.report_out_of_memory-2.new.err)
    (memory_line) c.report_out_of_memory.ensures.line
    (subst (λ s. Reported s (state c.report_out_of_memory-2.new.err) (memory_line)) (sym c.requires)
    c.report_out_of_memory-2.ensures.line)

pub returns-clause-status : goal.returns-clause-status
returns-clause-status g c = c.report_out_of_memory.ensures.status
    ∙ sym c.report_out_of_memory-2.ensures.status
