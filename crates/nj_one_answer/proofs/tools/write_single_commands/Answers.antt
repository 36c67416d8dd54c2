use Rattle.std.proofs.Common.{sym, subst}
use Rattle.nj_tools.specs.CommandStrings.{command_lines, own_commands}
use Rattle.nj_tools.specs.Texts.{WritesText}
use Rattle.nj_one_answer.proofs.ToolAnswers.{texts-agree, text-sinks-agree, both-done}
use Rattle.nj_one_answer.proofs.tools.write_single_commands.Goals as goal

pub returns-clause-agree : goal.returns-clause-agree
returns-clause-agree g c = λ entries is. let state = g.S.Sink.state in
    texts-agree (state c.args.one.now) (state c.write_single_commands.new.out)
    (state c.write_single_commands-2.new.out)
    (command_lines entries (own_commands c.args.graph.now.built.graph c.args.targets.now))
    c.write_single_commands.result c.write_single_commands-2.result
    (both-done c.write_single_commands.result c.write_single_commands-2.result)
    (c.write_single_commands.ensures entries is)
    (subst (λ s. WritesText s (state c.write_single_commands-2.new.out)
    (command_lines entries (own_commands c.args.graph.now.built.graph c.args.targets.now))
    c.write_single_commands-2.result)
    (sym c.requires.sink) (c.write_single_commands-2.ensures entries is))

pub returns-clause-sinks : goal.returns-clause-sinks
returns-clause-sinks g c = λ entries is. let state = g.S.Sink.state in
    text-sinks-agree (state c.args.one.now) (state c.write_single_commands.new.out)
    (state c.write_single_commands-2.new.out)
    (command_lines entries (own_commands c.args.graph.now.built.graph c.args.targets.now))
    c.write_single_commands.result c.write_single_commands-2.result
    (c.write_single_commands.ensures entries is)
    (subst (λ s. WritesText s (state c.write_single_commands-2.new.out)
    (command_lines entries (own_commands c.args.graph.now.built.graph c.args.targets.now))
    c.write_single_commands-2.result)
    (sym c.requires.sink) (c.write_single_commands-2.ensures entries is))
