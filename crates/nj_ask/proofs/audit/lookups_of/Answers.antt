use Rattle.std.proofs.Common.{sym, subst, ◌∙◌}
use Rattle.nj_ask.specs.Audits.{WouldBeMissing}
use Rattle.nj_ask.proofs.AuditLemmas.{none-missing, would-be-missing}
use Rattle.nj_ask.proofs.FailureLemmas.{ok-as}
use Rattle.nj_ask.proofs.audit.lookups_of.Goals as goal

pub returns-then-is_any : goal.returns-then-is_any
returns-then-is_any c entries is =
    ok-as _ (WouldBeMissing c.args.graph.now c.args.unknown.now) c.audit.result
    (would-be-missing c.args.graph.now entries c.args.unknown.now) (c.audit.ensures entries is)

pub returns : goal.returns
returns c entries is =
    subst (WouldBeMissing c.args.graph.now c.args.unknown.now) (sym c.new.ensures)
    (none-missing c.args.graph.now c.args.unknown.now (c.requires entries is)
    (sym c.is_any.ensures ∙ c.if-is_any.false))
