use Rattle.std.proofs.Common.{sym, subst}
use Rattle.nj_needs.specs.Graphs.{count_of, makers_of}
use Rattle.nj_needs.specs.PageWalks.{written}
use Rattle.nj_cycles.specs.Cycles.{IsAcyclic}
use Rattle.nj_tools.specs.CommandStrings.{command_lines}
use Rattle.nj_tools.specs.Texts.{WritesText}
use Rattle.nj_one_answer.proofs.ToolAnswers.{marks-done, text-sinks-agree, texts-agree}
use Rattle.nj_one_answer.proofs.tools.write_commands.Goals as goal

pub returns-clause-agree : goal.returns-clause-agree
returns-clause-agree g c = λ entries is. let state = g.S.Sink.state in
    let walk = c.args.needs.now in
    texts-agree (state c.args.one.now) (state c.write_commands.new.out) (state c.write_commands-2.new.out)
    (command_lines entries (written c.args.take walk.left)) c.write_commands.result c.write_commands-2.result
    (marks-done walk c.args.same.now c.requires.walk
    (subst (λ k. IsAcyclic (makers_of k) (count_of k)) (sym c.requires.graph) is.acyclic) c.args.take
    c.write_commands.result c.write_commands-2.result c.write_commands.ensures.mark
    c.write_commands-2.ensures.mark)
    (c.write_commands.ensures.writes entries is)
    (subst (λ s. WritesText s (state c.write_commands-2.new.out)
    (command_lines entries (written c.args.take walk.left))
    c.write_commands-2.result) (sym c.requires.sink)
    (subst (λ l. WritesText (state c.args.other.now) (state c.write_commands-2.new.out)
    (command_lines entries (written c.args.take l)) c.write_commands-2.result) (sym c.requires.walk.left)
    (c.write_commands-2.ensures.writes entries is)))

pub returns-clause-sinks : goal.returns-clause-sinks
returns-clause-sinks g c = λ entries is. let state = g.S.Sink.state in
    let walk = c.args.needs.now in
    text-sinks-agree (state c.args.one.now) (state c.write_commands.new.out)
    (state c.write_commands-2.new.out)
    (command_lines entries (written c.args.take walk.left)) c.write_commands.result c.write_commands-2.result
    (c.write_commands.ensures.writes entries is)
    (subst (λ s. WritesText s (state c.write_commands-2.new.out)
    (command_lines entries (written c.args.take walk.left))
    c.write_commands-2.result) (sym c.requires.sink)
    (subst (λ l. WritesText (state c.args.other.now) (state c.write_commands-2.new.out)
    (command_lines entries (written c.args.take l)) c.write_commands-2.result) (sym c.requires.walk.left)
    (c.write_commands-2.ensures.writes entries is)))
