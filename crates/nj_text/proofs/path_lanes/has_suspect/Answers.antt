use Rattle.std.proofs.Common.{sym, ◌∙◌, arith}
use Rattle.nj_text.specs.Inside.Cleaning.{suspects}
use Rattle.nj_text.proofs.SuspectLanes.{any_found, any_last, none_more}
use Rattle.nj_text.proofs.path_lanes.has_suspect.Goals as goal

pub returns-then-has_suspect_from : goal.returns-then-has_suspect_from
returns-then-has_suspect_from c = sym (any_found (suspects c.args.text.now) c.lanes.start 16
    (sym c.has_suspect_from.ensures ∙ c.if-has_suspect_from.true))

pub lanes-preserved : goal.lanes-preserved
lanes-preserved c = none_more (suspects c.args.text.now) c.lanes.start 16 c.lanes.invariant
    (sym c.has_suspect_from.ensures ∙ c.if-has_suspect_from.false)

pub returns : goal.returns
returns c = c.has_suspect_from-2.ensures
    ∙ any_last c.args.text.now c.lanes.start _ 16 (omega arith) (omega arith) c.lanes.invariant
