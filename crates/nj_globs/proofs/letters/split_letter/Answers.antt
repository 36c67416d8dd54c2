use Rattle.std.proofs.Common.{inl, inr}
use Rattle.std.proofs.lemmas.List.{nil_from_length}
use Rattle.nj_globs.proofs.LetterLemmas.{escaped-read, plain-read}
use Rattle.nj_globs.proofs.letters.split_letter.Goals as goal
use Rattle.nj_globs.proofs.letters.split_letter.Goals.{in_default-via-in-Some+else-first-eq92}
use Rattle.nj_globs.proofs.letters.split_letter.Goals.{in_default-via-in_default}

pub returns-in-Some-clause-letter : goal.returns-in-Some-clause-letter
returns-in-Some-clause-letter c = escaped-read c.args.at c.args.first c.in-Some.next.now c.args.others.now
    c.in-Some.after.now c.if-first-eq92.true c.in-Some.ensures.cases.0

pub returns-in_default-clause-letter : goal.returns-in_default-clause-letter
returns-in_default-clause-letter c = plain-read c.args.at c.args.first c.args.others.now
    (elim c.in_default.branch [
      | in_default-via-in-Some+else-first-eq92 w ↦ inr w.if-first-eq92.false
      | in_default-via-in_default w ↦ inl (nil_from_length c.args.others.now w.in_default.ensures.cases)
    ])
