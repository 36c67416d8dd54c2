use Rattle.std.proofs.Common.{◌≡◌, ℕ, List, [], ◌∷◌, ◌++◌, false, cond, map, sym, ap, ◌∙◌, subst}
use Rattle.std.specs.Prelude.{bytes_eq}
use Rattle.std.proofs.lemmas.List.{map_push}
use Rattle.nj_names.specs.NameTables.{is_among}
use Rattle.nj_chosen.specs.Inside.Numbers.{NumbersModel, numbers_at, row_beside}
use Rattle.nj_chosen.proofs.RowLemmas.{new_added, same-count}
use Rattle.nj_chosen.proofs.numbers.NumbersByName.add_new.Goals as goal

pub returns : goal.returns
returns c =
    let names = c.self.inside.names in
    let name = c.args.name.now in
    let number = c.args.number in
    let rows = map (λ row. row.items) c.self.inside.rows.items in
    let new = map (λ row. row.items) c.push_reserved.new.self.items in
    let none = subst (λ (m : NumbersModel). is_among m.names name ≡ false) (sym c.self.view_is) c.requires in
    let is_new : new ≡ rows ++ (number ∷ []) ∷ [] =
    ap (map (λ row. row.items)) (c.push_reserved.ensures.items
    ∙ ap (λ rs. rs ++ c.in_ok-row.row ∷ []) c.in_ok-reserve.ensures.items)
    ∙ map_push (λ row. row.items) c.self.inside.rows.items c.in_ok-row.row
    ∙ ap (λ row. rows ++ row ∷ []) c.in_ok-row.ensures.items in
    subst (λ (m : NumbersModel). (other : List ℕ) → row_beside c.add.new.self new other
    ≡ cond (bytes_eq other name) (numbers_at m other ++ number ∷ []) (numbers_at m other))
    c.self.view_is
    (new_added names rows name none number c.add.new.self new
    (same-count names c.self.inside.rows.items c.self.invariant)
    (c.in_ok-add.ensures.added ∙ ap (λ b. cond b names (names ++ name ∷ [])) none) is_new)
