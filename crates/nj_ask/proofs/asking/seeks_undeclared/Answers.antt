use Rattle.std.proofs.Common.{subst, ◌∙◌}
use Rattle.nj_audit.specs.declared.kinds.Kind.TheVariants.{UndeclaredInput}
use Rattle.nj_ask.specs.Inside.Asking.{IsTask}
use Rattle.nj_ask.proofs.asking.seeks_undeclared.Goals as goal

pub returns-in-Audit : goal.returns-in-Audit
returns-in-Audit c = λ subject is.
    let asks = subst (IsTask subject) c.in-Audit.is is in
    rw asks.0 (c.contains.ensures ∙ asks.1.asked UndeclaredInput)
