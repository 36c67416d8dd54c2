use Rattle.std.proofs.Common.{length, refl, sym, ◌∙◌}
use Rattle.nj_text.proofs.Cuts.{feed_lands, return_lands, lands, names_no_feed, name_found}
use Rattle.nj_text.proofs.dollar.after_dollar.Goals as goal

pub returns-in-10-clause-lands : goal.returns-in-10-clause-lands
returns-in-10-clause-lands c = λ spot.
    let first = c.in-Some.ensures in
    rw (c.run_length.ensures.length, first, c.in-10.is) (feed_lands c.in-Some.remainder.now spot)

pub returns-in-Some-eq10-default-clause-lands : goal.returns-in-Some-eq10-default-clause-lands
returns-in-Some-eq10-default-clause-lands c = λ spot.
    let first = c.in-Some.ensures in
    let second = c.in-Some-eq10-default.ensures in
    rw (
      c.run_length-in-Some-eq10-default.ensures.length,
      first,
      second,
      c.in-13.is,
      c.in-Some-eq10-default.field-0-0-test,
    ) (return_lands c.in-Some-eq10-default.spaces.now spot)

pub returns-else-is_empty-clause-found : goal.returns-else-is_empty-clause-found
returns-else-is_empty-clause-found c =
    name_found c.in-Some.byte c.in-Some.remainder.now c.args.bytes.now c.split_run.result.0.now
    c.in-Some.ensures c.split_run.ensures.run (sym c.is_empty.ensures ∙ c.if-is_empty.false)

pub returns-else-is_empty-clause-lands : goal.returns-else-is_empty-clause-lands
returns-else-is_empty-clause-lands c = λ spot.
    let name = c.split_run.result.0.now in
    rw c.split_run.ensures.whole (lands name c.split_run.result.1.now (length name) spot
    (rw c.split_run.ensures.run (names_no_feed c.args.bytes.now)) refl)
