use Rattle.std.proofs.Common.{subst, ◌∙◌}
use Rattle.nj_ask.specs.Endings.{ReportsError}
use Rattle.nj_ask.proofs.system_errors.refuse_folder.Goals as goal

pub returns-in-Ok-clause-line : goal.returns-in-Ok-clause-line
returns-in-Ok-clause-line g c =
    subst (λ what. ReportsError what (g.E.Sink.state c.args.err.now) (g.E.Sink.state c.refuse.new.err))
    (c.as_bytes.ensures.value ∙ c.in-Ok.ensures.ok) c.refuse.ensures.line
