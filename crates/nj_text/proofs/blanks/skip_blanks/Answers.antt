use Rattle.std.proofs.Common.{sym, ap, ◌∙◌}
use Rattle.nj_text.specs.Inside.Scans.{begins_with_space_byte}
use Rattle.nj_text.proofs.Passed.{blanks_over_run, no_space_after}
use Rattle.nj_text.proofs.blanks.skip_blanks.Goals as goal

pub returns-in_default : goal.returns-in_default
returns-in_default c =
    let over = blanks_over_run c.blanks.cursor.spot c.blanks.cursor.rest.now c.run.result.0.now
    c.run.result.1.rest.now c.run.result.1.spot c.run.ensures.whole c.run.ensures.run c.run.ensures.spot
    in
    let stops = c.in_default.ensures.blanks
    (ap begins_with_space_byte c.run.ensures.after ∙ no_space_after c.blanks.cursor.rest.now) in
    sym stops ∙ sym over ∙ c.blanks.invariant

pub blanks-preserved : goal.blanks-preserved
blanks-preserved c =
    let over = blanks_over_run c.blanks.cursor.spot c.blanks.cursor.rest.now c.run.result.0.now
    c.run.result.1.rest.now c.run.result.1.spot c.run.ensures.whole c.run.ensures.run c.run.ensures.spot
    in
    sym c.in-Some.ensures.blanks ∙ sym over ∙ c.blanks.invariant
