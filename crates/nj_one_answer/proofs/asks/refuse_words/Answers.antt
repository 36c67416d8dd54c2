use Rattle.std.proofs.Common.{sym, subst, ◌∙◌}
use Rattle.std.specs.Prelude.{codes}
use Rattle.nj_ask.specs.Endings.{Reported, program_line}
use Rattle.nj_one_answer.proofs.RunAnswers.{reports-agree}
use Rattle.nj_one_answer.proofs.asks.refuse_words.Goals as goal

pub returns-clause-sinks : goal.returns-clause-sinks
returns-clause-sinks g c = let state = g.E.Sink.state in
    reports-agree (state c.args.one.now) (state c.refuse_words.new.err) (state c.refuse_words-2.new.err)
    (program_line (codes "cannot read the arguments")) c.refuse_words.ensures.line
    (subst (λ s. Reported s (state c.refuse_words-2.new.err)
    (program_line (codes "cannot read the arguments"))) (sym c.requires)
    c.refuse_words-2.ensures.line)

pub returns-clause-status : goal.returns-clause-status
returns-clause-status g c = c.refuse_words.ensures.status ∙ sym c.refuse_words-2.ensures.status
