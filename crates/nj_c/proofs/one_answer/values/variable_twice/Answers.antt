use Rattle.std.proofs.Common.{rules, sym, w32, ◌∙◌}
use Rattle.nj_graph.specs.Graph.{IsGraphOf, late_text_of}
use mir.Val.{SFits}
use Rattle.nj_c.proofs.OneAnswerCalls.{stated-value}
use Rattle.nj_c.proofs.OneAnswerGraphs.{graph_in, edge_total}
use Rattle.nj_c.proofs.OneAnswerLemmas.{passed}
use Rattle.nj_c.specs.OneAnswer.{IfStated, InMemory, SameBuffer}
use Rattle.nj_c.proofs.one_answer.values.variable_twice.Goals as goal

pub returns-clause-same : goal.returns-clause-same
returns-clause-same c =
    let fits : SFits w32 c.nx_variable.result = search rules in
    let fits2 : SFits w32 c.nx_variable-2.result = search rules in
    passed (λ r s. IfStated c.args.one.now.kept (InMemory r s (SameBuffer r s c.nx_variable.new.buffer
    c.nx_variable-2.new.buffer c.nx_variable.new.needed c.nx_variable-2.new.needed))) fits fits2
    (stated-value graph_in c.args.one.now.kept c.args.other.now.kept c.requires.kept c.nx_variable.result
    c.nx_variable-2.result c.args.buffer.now c.args.buffer_other.now c.nx_variable.new.buffer
    c.nx_variable-2.new.buffer c.nx_variable.new.needed c.nx_variable-2.new.needed c.requires.buffer
    c.nx_variable.ensures.buffer c.nx_variable-2.ensures.buffer IsGraphOf edge_total c.args.edge (λ stated.
    late_text_of stated c.args.edge c.args.name.now) c.args.needed.now c.args.needed_other.now
    c.nx_variable.ensures.value c.nx_variable-2.ensures.value)

pub returns-clause-kept : goal.returns-clause-kept
returns-clause-kept c =
    c.nx_variable.ensures.kept ∙ c.requires.kept ∙ sym c.nx_variable-2.ensures.kept
