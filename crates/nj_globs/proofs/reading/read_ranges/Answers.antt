use Rattle.std.proofs.Common.{List, sym, subst}
use Rattle.nj_globs.specs.declared.parts.ByteRange.{ByteRange}
use Rattle.nj_globs.specs.Inside.Readings.{AreRangesSoFar}
use Rattle.nj_globs.proofs.ReadingLemmas.{ranges-more, ranges-fail}
use Rattle.nj_globs.proofs.reading.read_ranges.Goals as goal

pub returns-then-last-first-clause-fault : goal.returns-then-last-first-clause-fault
returns-then-last-first-clause-fault c =
    let end = c.split_range.result in
    ranges-fail c.args.letters.now c.letters.rest.now c.in-Some.others.now end.1.now c.letters.ranges.items
    c.in-Some.first.now end.0 c.letters.invariant c.in-Some.ensures.cases.0 c.split_range.ensures.range
    c.if-last-first.true

pub letters-preserved : goal.letters-preserved
letters-preserved c =
    let end = c.split_range.result in
    subst (λ (rs : List ByteRange). AreRangesSoFar c.args.letters.now end.1.now rs)
    (sym {A = List ByteRange} c.in_ok-push.ensures.items)
    (ranges-more c.args.letters.now c.letters.rest.now c.in-Some.others.now end.1.now c.letters.ranges.items
    c.in-Some.first.now end.0 c.letters.invariant c.in-Some.ensures.cases.0 c.split_range.ensures.range
    c.if-last-first.false)
