use Rattle.std.proofs.Common.{false, sym, ap, ◌∙◌}
use Rattle.nj_text.specs.Calls.{sign_of}
use Rattle.nj_text.specs.Inside.States.{reply, state_at}
use Rattle.nj_text.proofs.States.{sign_opening}
use Rattle.nj_text.proofs.lexer.Lexer.sign.Goals as goal

pub returns-in-OpeningJoin : goal.returns-in-OpeningJoin
returns-in-OpeningJoin c =
    let cursor = c.self.inside.cursor in
    let state = sym c.self.view_is ∙ ap (λ st. state_at st cursor.spot cursor.rest.now) c.in-OpeningJoin.is in
    let found = ap (sign_of c.args.want) state
    ∙ sign_opening c.args.want c.in-OpeningJoin.field-0 c.in-OpeningJoin.field-1.now cursor.spot
    cursor.rest.now in
    found ∙ ap (λ s. reply false s) (sym state)
