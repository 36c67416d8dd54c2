use Rattle.std.proofs.Common.{sym, subst, ◌∙◌, ap}
use Rattle.std.specs.Prelude.{codes}
use Rattle.std.specs.IoError.{error_kind}
use Rattle.nj_ask.specs.Endings.{Reported, ReportsError, memory_line}
use Rattle.nj_one_answer.proofs.RunAnswers.{errors-agree, reports-agree}
use Rattle.nj_one_answer.proofs.asks.refuse_input.Goals as goal

pub returns-clause-line : goal.returns-clause-line
returns-clause-line g c = let state = g.E.Sink.state in
    errors-agree (codes "cannot read standard input: ")
    (state c.args.one.now) (state c.refuse_input.new.err) (state c.refuse_input-2.new.err)
    c.refuse_input.ensures.line
    (subst (λ s. ReportsError (codes "cannot read standard input: ") s (state c.refuse_input-2.new.err))
    (sym c.requires.sink) c.refuse_input-2.ensures.line)

pub returns-clause-memory : goal.returns-clause-memory
returns-clause-memory g c = λ is. let state = g.E.Sink.state in
    reports-agree (state c.args.one.now) (state c.refuse_input.new.err) (state c.refuse_input-2.new.err)
    memory_line
    (c.refuse_input.ensures.memory is)
    (subst (λ s. Reported s (state c.refuse_input-2.new.err) memory_line) (sym c.requires.sink)
    (c.refuse_input-2.ensures.memory (ap error_kind (sym c.requires.error) ∙ is)))

pub returns-clause-status : goal.returns-clause-status
returns-clause-status g c = c.refuse_input.ensures.status ∙ sym c.refuse_input-2.ensures.status
