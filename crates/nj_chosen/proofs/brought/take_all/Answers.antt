use Rattle.std.proofs.Common.{◌<◌, sym, subst, ◌∙◌}
use Rattle.std.specs.Prelude.{Contains, OnOk}
use Rattle.std.specs.List.{All}
use Rattle.std.proofs.lemmas.List.Elements.{All-contains_itself, All-weaker}
use Rattle.nj_chosen.specs.Inside.Bringing.{FindsMore}
use Rattle.nj_chosen.specs.Inside.Numbers.{numbers_at}
use Rattle.nj_chosen.proofs.brought.take_all.Goals as goal

pub add_all-requires : goal.add_all-requires
add_all-requires c =
    let numbers = numbers_at c.args.numbers.now c.args.name.now in
    subst (All (λ n. n < c.args.found.now.limit))
    (sym (c.as_slice.ensures.value ∙ c.take-taken.ensures.taken))
    (All-weaker (Contains numbers) (λ n. n < c.args.found.now.limit)
    (λ n has. c.requires c.args.name.now n has) numbers (All-contains_itself numbers))

pub returns-clause-found : goal.returns-clause-found
returns-clause-found c =
    subst (λ ns. OnOk c.add_all.result (FindsMore (Contains ns) c.args.found.now c.add_all.new.found))
    (c.as_slice.ensures.value ∙ c.take-taken.ensures.taken) c.add_all.ensures
