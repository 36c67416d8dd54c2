use Rattle.std.proofs.Common.{◌≡◌, ℕ, List, [], ◌∷◌, ◌++◌, cond, map, sym, subst}
use Rattle.std.specs.Prelude.{bytes_eq}
use Rattle.nj_chosen.specs.Inside.Numbers.{NumbersModel, numbers_at, row_beside}
use Rattle.nj_chosen.proofs.RowLemmas.{known_added, same-count}
use Rattle.nj_chosen.proofs.numbers.NumbersByName.add.Goals as goal

pub returns-in-Some : goal.returns-in-Some
returns-in-Some c =
    let names = c.self.inside.names in
    let rows = map (λ row. row.items) c.self.inside.rows.items in
    let new = map (λ row. row.items) c.push_at.new.rows.items in
    subst (λ (m : NumbersModel). (other : List ℕ) → row_beside names new other
    ≡ cond (bytes_eq other c.args.name.now) (numbers_at m other ++ c.args.number ∷ []) (numbers_at m other))
    c.self.view_is
    (known_added names rows new c.args.name.now c.in-Some.place
    (same-count names c.self.inside.rows.items c.self.invariant) c.count-count.ensures.each_name_once
    (sym c.in-Some.ensures.index) c.args.number c.in_ok-push_at.ensures.rows)
