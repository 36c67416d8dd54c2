use Rattle.nj_questions.proofs.Numerals.{meant-some, meant-none}
use Rattle.nj_questions.proofs.fields.given_number.Goals as goal

pub returns-in-Ok : goal.returns-in-Ok
returns-in-Ok c = meant-some c.args.text.now c.in-Ok.number c.in-Ok.ensures.value.0

pub returns-in-Err : goal.returns-in-Err
returns-in-Err c = meant-none c.args.text.now c.in-Err.ensures.value.0
