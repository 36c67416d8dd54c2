use Rattle.std.proofs.Common.{not, refl, arith}
use Rattle.nj_text.specs.declared.runs.Run.TheVariants as run
use Rattle.nj_text.specs.Inside.Runs.{in_run}
use Rattle.nj_text.specs.declared.lanes.TheConstants.{VALUE_STOPS}
use Rattle.nj_text.proofs.LaneRuns.{masked}
use Rattle.nj_text.proofs.LookedUp.{hits}
use Rattle.nj_text.proofs.lanes.value_stops.Goals as goal

pub returns : goal.returns
returns c =
    let v = c.args.lanes in
    masked _ (λ b. not (in_run run.Value b)) v _ (omega (arith, c.fits-lanes.0)) c.fits-lanes.1
    (hits VALUE_STOPS v _ c.looked_up.ensures) refl
