use Rattle.std.proofs.Common.{map, string_bytes, subst}
use Rattle.nj_chosen.specs.Inside.Numbers.{AddsNumber}
use Rattle.nj_chosen.proofs.AnswerLemmas.{adds-both}
use Rattle.nj_chosen.proofs.brought.add_needed_fixtures.Goals as goal

pub returns : goal.returns
returns c =
    let test = c.args.test.now in
    let number = c.args.number in
    let old = c.args.numbers.now in
    let mid = c.add_under.new.numbers in
    let new = c.add_under-2.new.numbers in
    adds-both (map string_bytes test.set_up_fixtures.items) (map string_bytes test.cleaned_fixtures.items)
    number old mid new
    (subst (λ names. AddsNumber (map string_bytes names) number old mid) c.as_slice.ensures.value
    c.in_ok-add_under.ensures)
    (subst (λ names. AddsNumber (map string_bytes names) number mid new) c.as_slice-2.ensures.value
    c.in_ok-add_under-2.ensures)
