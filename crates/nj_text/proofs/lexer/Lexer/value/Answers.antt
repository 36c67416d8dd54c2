use Rattle.std.proofs.Common.{map, sym, ap, ◌∙◌}
use Rattle.nj_text.specs.Words.{part_model}
use Rattle.nj_text.specs.Calls.{value_of, after_blanks, value_at, is_inside}
use Rattle.nj_text.specs.Inside.States.{reply, state_at, line_at, other_lines_at}
use Rattle.nj_text.proofs.States.{value_between, value_opening, value_inside, finished_value}
use Rattle.nj_text.proofs.lexer.Lexer.value.Goals as goal

pub returns-in-Between : goal.returns-in-Between
returns-in-Between c =
    let cursor = c.self.inside.cursor in
    let state = sym c.self.view_is ∙ ap (λ st. state_at st cursor.spot cursor.rest.now) c.in-Between.is in
    let found = ap value_of state ∙ value_between cursor.spot cursor.rest.now c.new-parts.result.items
    c.new-parts.ensures.items in
    found ∙ ap (λ s. reply (record { spot = cursor.spot; parts = map part_model c.new-parts.result.items }) s)
    (sym state)

pub returns-in-OpeningJoin : goal.returns-in-OpeningJoin
returns-in-OpeningJoin c =
    let cursor = c.self.inside.cursor in
    let state = sym c.self.view_is ∙ ap (λ st. state_at st cursor.spot cursor.rest.now) c.in-OpeningJoin.is in
    let found = ap value_of state ∙ value_opening c.in-OpeningJoin.field-0 c.in-OpeningJoin.field-1.now
    cursor.spot cursor.rest.now in
    finished_value c.args.self.now c.finish_value.new.self
    (value_at (after_blanks (line_at cursor)) (other_lines_at cursor)) c.value.result
    c.finish_value.result (ap is_inside state) found c.value.ensures c.finish_value.ensures

pub returns-in-Inside : goal.returns-in-Inside
returns-in-Inside c =
    let cursor = c.self.inside.cursor in
    let state = sym c.self.view_is ∙ ap (λ st. state_at st cursor.spot cursor.rest.now) c.in-Inside.is in
    let found = ap value_of state ∙ value_inside cursor.spot cursor.rest.now in
    finished_value c.args.self.now c.finish_value-in-Inside.new.self
    (value_at (after_blanks (line_at cursor)) (other_lines_at cursor)) c.value-in-Inside.result
    c.finish_value-in-Inside.result (ap is_inside state) found c.value-in-Inside.ensures
    c.finish_value-in-Inside.ensures
