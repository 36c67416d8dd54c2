use Rattle.std.proofs.Common.{lit<}
use Rattle.std.proofs.lemmas.Str.Pattern.{split_once_first}
use Rattle.nj_needs.proofs.MarkTextLemmas.{parts-none, parts-some}
use Rattle.nj_needs.proofs.mark_numbers.first_part.Goals as goal

pub returns-in-Some-clause-parts : goal.returns-in-Some-clause-parts
returns-in-Some-clause-parts c =
    let text = c.args.text.now in
    let first = rw c.in-Some.is at (split_once_first 46 text c.split_once.result c.split_once.ensures.cases
    (lit< tt)) in
    parts-some text c.in-Some.part.now c.in-Some.after.now first.0 first.1 first.2

pub returns-in-None-clause-parts : goal.returns-in-None-clause-parts
returns-in-None-clause-parts c =
    let first = rw c.in-None.is at (split_once_first 46 c.args.text.now c.split_once.result
    c.split_once.ensures.cases (lit< tt)) in
    parts-none c.args.text.now first
