use Rattle.std.proofs.Common.{◌≡◌, subst, refl}
use Rattle.std.specs.Prelude.{IfSome}
use Rattle.nj_discovered.specs.Times.IsTimeOf.{asked, not_asked}
use Rattle.nj_discovered.specs.declared.times.TimeFound.TheVariants.{Time}
use Rattle.nj_discovered.proofs.times.time_of.Goals as goal

pub returns-in_default : goal.returns-in_default
returns-in_default g c = not_asked c.in_default.ensures.cases.0 refl

pub returns-in-Ok-time : goal.returns-in-Ok-time
returns-in-Ok-time g c =
    asked c.in-Ok.ensures.cases.1 (subst (λ p. IfSome (g.T.FileTimes.times c.args.times.now p)
    (λ meant. meant ≡ Time c.in-Ok-time.time)) c.in-Ok.ensures.cases.0 c.in-Ok-time.ensures)
