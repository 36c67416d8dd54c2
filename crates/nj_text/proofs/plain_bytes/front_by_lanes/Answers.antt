use Rattle.std.proofs.Common.{◌+◌, length, ◌-◌, sym, ap, ◌∙◌, arith}
use lib.Count.{count_trailing_zeros}
use Rattle.nj_text.specs.Quotes.{is_plain_byte}
use Rattle.std.proofs.lemmas.List.Sums.{prefix_len-drop_all}
use Rattle.nj_text.proofs.LaneRuns.{run_through, run_stops}
use Rattle.nj_text.proofs.PlainFronts.{front_after}
use Rattle.nj_text.proofs.plain_bytes.front_by_lanes.Goals as goal

pub returns-then-stops-ne0 : goal.returns-then-stops-ne0
returns-then-stops-ne0 c =
    let found = c.stops_from-stops in
    let run = run_stops is_plain_byte c.args.path.now c.lanes.start 16 (omega arith) (omega arith)
    (omega (arith, found.ensures)) ∙ ap (count_trailing_zeros 64) (sym found.ensures) in
    omega (arith, run, c.lanes.invariant)

pub lanes-preserved : goal.lanes-preserved
lanes-preserved c =
    let run = run_through is_plain_byte c.args.path.now c.lanes.start 16 (omega arith)
    (omega (arith, c.stops_from-stops.ensures)) in
    omega (arith, run, c.lanes.invariant)

pub returns-then-stops-eq0 : goal.returns-then-stops-eq0
returns-then-stops-eq0 c =
    let path = c.args.path.now in
    let last = length path - 16 in
    let whole = front_after is_plain_byte path last (omega (arith, c.lanes.invariant)) in
    let run = run_through is_plain_byte path last 16 (omega arith)
    (omega (arith, c.stops_from-stops-2.ensures)) in
    omega (arith, whole, run, prefix_len-drop_all is_plain_byte path (last + 16) (omega arith))

pub returns : goal.returns
returns c =
    let found = c.stops_from-stops-2 in
    let path = c.args.path.now in
    let last = length path - 16 in
    let whole = front_after is_plain_byte path last (omega (arith, c.lanes.invariant)) in
    let run = run_stops is_plain_byte path last 16 (omega arith) (omega arith) (omega (arith, found.ensures))
    ∙ ap (count_trailing_zeros 64) (sym found.ensures) in
    omega (arith, whole, run)
