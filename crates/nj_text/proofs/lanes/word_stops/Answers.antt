use Rattle.std.proofs.Common.{not, bit_or, refl, arith}
use Rattle.nj_text.specs.declared.runs.Run.TheVariants as run
use Rattle.nj_text.specs.Inside.Runs.{in_run}
use Rattle.nj_text.specs.declared.lanes.TheConstants.{WORD_STOPS, MORE_WORD_STOPS}
use Rattle.nj_text.proofs.LaneRuns.{joined, masked}
use Rattle.nj_text.proofs.LookedUp.{hits}
use Rattle.nj_text.proofs.lanes.word_stops.Goals as goal

pub returns : goal.returns
returns c =
    let v = c.args.lanes in
    masked _ (λ b. not (in_run run.Word b)) v _ (omega (arith, c.fits-lanes.0)) c.fits-lanes.1
    (joined bit_or _ _ v (hits WORD_STOPS v _ c.looked_up.ensures)
    (hits MORE_WORD_STOPS v _ c.looked_up-2.ensures)) refl
