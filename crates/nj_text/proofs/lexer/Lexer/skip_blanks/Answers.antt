use Rattle.std.proofs.Common.{sym, ap, ◌∙◌}
use Rattle.nj_text.specs.Calls.{skip_blanks_of}
use Rattle.nj_text.specs.Inside.States.{state_at}
use Rattle.nj_text.proofs.States.{blanks_skipped}
use Rattle.nj_text.proofs.lexer.Lexer.skip_blanks.Goals as goal

pub returns-in-Inside : goal.returns-in-Inside
returns-in-Inside c =
    let cursor = c.self.inside.cursor in
    let here = c.skip_blanks-self-inside.result in
    let state = sym c.self.view_is ∙ ap (λ st. state_at st cursor.spot cursor.rest.now) c.in-Inside.is in
    ap (λ st. state_at st here.spot here.rest.now) c.in-Inside.is
    ∙ blanks_skipped cursor.spot here.spot cursor.rest.now here.rest.now c.skip_blanks-self-inside.ensures
    ∙ ap skip_blanks_of (sym state)
