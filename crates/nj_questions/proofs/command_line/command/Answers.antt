use Rattle.std.proofs.Common.{◌∙◌}
use Rattle.std.proofs.lemmas.Result.{IfOk-weaker}
use Rattle.nj_questions.proofs.Commands.{added, in_turn}
use Rattle.nj_questions.proofs.command_line.command.Goals as goal

pub returns : goal.returns
returns c =
    let one = added _ _ _ _ c.in_ok-made.ensures c.in_ok-made-2.ensures in
    let two = added _ _ _ _ one c.in_ok-made-3.ensures in
    let three = added _ _ _ _ two c.in_ok-made-4.ensures in
    let four = added _ _ _ _ three c.in_ok-made-5.ensures in
    let five = added _ _ _ _ four c.in_ok-made-6.ensures in
    let six = added _ _ _ _ five c.in_ok-made-7.ensures in
    let seven = added _ _ _ _ six c.in_ok-made-8.ensures in
    let eight = added _ _ _ _ seven c.in_ok-made-9.ensures in
    IfOk-weaker c.with_why.result _ _ (λ made then. added _ _ _ _ eight then ∙ in_turn)
    c.with_why.ensures
