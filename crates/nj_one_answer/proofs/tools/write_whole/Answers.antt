use Rattle.std.proofs.Common.{sym, subst}
use Rattle.nj_tools.specs.Sinks.{Writes}
use Rattle.nj_one_answer.proofs.ToolAnswers.{wholes-agree}
use Rattle.nj_one_answer.proofs.tools.write_whole.Goals as goal

pub returns : goal.returns
returns g c = let state = g.S.Sink.state in
    wholes-agree (state c.args.one.now) (state c.write_whole.new.sink) (state c.write_whole-2.new.sink)
    c.args.text.now c.write_whole.result c.write_whole-2.result c.write_whole.ensures
    (subst (λ s. Writes s (state c.write_whole-2.new.sink) c.args.text.now c.write_whole-2.result)
    (sym c.requires)
    c.write_whole-2.ensures)
