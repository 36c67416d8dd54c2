use Rattle.std.proofs.Common.{◌≡◌, ℕ, List, [], cond, map, sym, ap, ◌∙◌, subst}
use Rattle.std.specs.Prelude.{bytes_eq}
use Rattle.nj_chosen.specs.Inside.Numbers.{NumbersModel, numbers_at, row_beside}
use Rattle.nj_chosen.proofs.RowLemmas.{known_left, known_taken, same-count}
use Rattle.nj_chosen.proofs.numbers.NumbersByName.take.Goals as goal

pub returns-in-Some-clause-taken : goal.returns-in-Some-clause-taken
returns-in-Some-clause-taken c =
    let names = c.self.inside.names in
    let rows = map (λ row. row.items) c.self.inside.rows.items in
    c.take_at.ensures.taken
    ∙ known_taken names rows [] c.args.name.now c.in-Some.place
    (same-count names c.self.inside.rows.items c.self.invariant) c.count-count.ensures.each_name_once
    (sym c.in-Some.ensures.index)
    ∙ ap (λ (m : NumbersModel). numbers_at m c.args.name.now) c.self.view_is

pub returns-in-Some-clause-left : goal.returns-in-Some-clause-left
returns-in-Some-clause-left c =
    let names = c.self.inside.names in
    let rows = map (λ row. row.items) c.self.inside.rows.items in
    let new = map (λ row. row.items) c.take_at.new.rows.items in
    subst (λ (m : NumbersModel). (other : List ℕ) → row_beside names new other
    ≡ cond (bytes_eq other c.args.name.now) [] (numbers_at m other))
    c.self.view_is
    (known_left names rows new c.args.name.now c.in-Some.place
    (same-count names c.self.inside.rows.items c.self.invariant) c.count-count.ensures.each_name_once
    (sym c.in-Some.ensures.index) [] c.take_at.ensures.rows)
