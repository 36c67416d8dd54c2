use Rattle.std.proofs.Common.{sym, ap, ◌∙◌, arith}
use lib.Count.{count_trailing_zeros}
use Rattle.std.proofs.lemmas.List.Sums.{prefix_len-le-length}
use Rattle.nj_text.specs.Inside.Runs.{in_run, lane_run}
use Rattle.nj_text.proofs.LaneRuns.{run_through, run_stops}
use Rattle.nj_text.proofs.runs.length_by_lanes.Goals as goal

pub returns-then-stops-ne0-clause-length : goal.returns-then-stops-ne0-clause-length
returns-then-stops-ne0-clause-length c =
    let found = c.stops-stops in
    let run = run_stops (in_run (lane_run c.args.run)) c.args.bytes.now c.lanes.passed 16 (omega arith)
    (omega arith) (omega (arith, found.ensures)) ∙ ap (count_trailing_zeros 64) (sym found.ensures) in
    omega (arith, run, c.lanes.invariant.0)

pub returns-then-stops-ne0-clause-within : goal.returns-then-stops-ne0-clause-within
returns-then-stops-ne0-clause-within c =
    let found = c.stops-stops in
    let run = run_stops (in_run (lane_run c.args.run)) c.args.bytes.now c.lanes.passed 16 (omega arith)
    (omega arith) (omega (arith, found.ensures)) ∙ ap (count_trailing_zeros 64) (sym found.ensures) in
    omega (
      arith,
      run,
      c.lanes.invariant.0,
      prefix_len-le-length (in_run (lane_run c.args.run)) c.args.bytes.now,
    )

pub lanes-preserved : goal.lanes-preserved
lanes-preserved c =
    let run = run_through (in_run (lane_run c.args.run)) c.args.bytes.now c.lanes.passed 16 (omega arith)
    (omega (arith, c.stops-stops.ensures)) in
    (omega (arith, run, c.lanes.invariant.0), omega arith)
