use Rattle.std.proofs.Common.{codes, rules, sym, w32, ◌∙◌}
use Rattle.nj_graph.specs.Graph.{IsGraphOf, late_text_of}
use mir.Val.{SFits}
use Rattle.nj_c.proofs.OneAnswerCalls.{stated-value}
use Rattle.nj_c.proofs.OneAnswerGraphs.{graph_in, edge_total}
use Rattle.nj_c.proofs.OneAnswerLemmas.{passed}
use Rattle.nj_c.specs.OneAnswer.{IfStated, InMemory, SameBuffer}
use Rattle.nj_c.proofs.one_answer.values.command_twice.Goals as goal

pub returns-clause-same : goal.returns-clause-same
returns-clause-same c =
    let fits : SFits w32 c.nx_command.result = search rules in
    let fits2 : SFits w32 c.nx_command-2.result = search rules in
    passed (λ r s. IfStated c.args.one.now.kept (InMemory r s (SameBuffer r s c.nx_command.new.buffer
    c.nx_command-2.new.buffer c.nx_command.new.needed c.nx_command-2.new.needed))) fits fits2 (stated-value
    graph_in c.args.one.now.kept c.args.other.now.kept c.requires.kept c.nx_command.result
    c.nx_command-2.result c.args.buffer.now c.args.buffer_other.now c.nx_command.new.buffer
    c.nx_command-2.new.buffer c.nx_command.new.needed c.nx_command-2.new.needed c.requires.buffer
    c.nx_command.ensures.buffer c.nx_command-2.ensures.buffer IsGraphOf edge_total c.args.edge (λ stated.
    late_text_of stated c.args.edge (codes "command")) c.args.needed.now c.args.needed_other.now
    c.nx_command.ensures.value c.nx_command-2.ensures.value)

pub returns-clause-kept : goal.returns-clause-kept
returns-clause-kept c =
    c.nx_command.ensures.kept ∙ c.requires.kept ∙ sym c.nx_command-2.ensures.kept
