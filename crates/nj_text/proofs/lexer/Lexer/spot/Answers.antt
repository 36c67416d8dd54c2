use Rattle.std.proofs.Common.{sym, ap, ◌∙◌}
use Rattle.nj_text.specs.Calls.{spot_of}
use Rattle.nj_text.specs.Inside.States.{state_at}
use Rattle.nj_text.proofs.States.{spot_between, spot_inside, spot_opening}
use Rattle.nj_text.proofs.lexer.Lexer.spot.Goals as goal

pub returns-in-Between : goal.returns-in-Between
returns-in-Between c =
    let cursor = c.self.inside.cursor in
    let state = sym c.self.view_is ∙ ap (λ st. state_at st cursor.spot cursor.rest.now) c.in-Between.is in
    sym (ap spot_of state ∙ spot_between cursor.spot cursor.rest.now)

pub returns-in-OpeningJoin : goal.returns-in-OpeningJoin
returns-in-OpeningJoin c =
    let cursor = c.self.inside.cursor in
    let state = sym c.self.view_is ∙ ap (λ st. state_at st cursor.spot cursor.rest.now) c.in-OpeningJoin.is in
    sym (ap spot_of state ∙ spot_opening c.in-OpeningJoin.spot c.in-OpeningJoin.field-1.now cursor.spot
    cursor.rest.now)

pub returns-in-Inside : goal.returns-in-Inside
returns-in-Inside c =
    let cursor = c.self.inside.cursor in
    let state = sym c.self.view_is ∙ ap (λ st. state_at st cursor.spot cursor.rest.now) c.in-Inside.is in
    sym (ap spot_of state ∙ spot_inside cursor.spot cursor.rest.now)
