use Rattle.std.proofs.Common.{rules, sym, w32, ◌∙◌}
use Rattle.nj_faults.specs.FaultLines.{bare_line}
use mir.Val.{SFits}
use Rattle.nj_c.proofs.OneAnswerCalls.{value-text-of-part}
use Rattle.nj_c.proofs.OneAnswerGraphs.{graph_in, fault_in}
use Rattle.nj_c.proofs.OneAnswerLemmas.{passed}
use Rattle.nj_c.specs.OneAnswer.{InMemory, SameBuffer}
use Rattle.nj_c.proofs.one_answer.faults.fault_line_twice.Goals as goal

pub returns-clause-same : goal.returns-clause-same
returns-clause-same c =
    let fits : SFits w32 c.nx_fault_line.result = search rules in
    let fits2 : SFits w32 c.nx_fault_line-2.result = search rules in
    passed (λ r s. InMemory r s (SameBuffer r s c.nx_fault_line.new.buffer c.nx_fault_line-2.new.buffer
    c.nx_fault_line.new.needed c.nx_fault_line-2.new.needed)) fits fits2 (value-text-of-part
    c.args.one.now.kept c.args.other.now.kept c.requires.kept c.nx_fault_line.result
    c.nx_fault_line-2.result c.args.buffer.now c.args.buffer_other.now c.nx_fault_line.new.buffer
    c.nx_fault_line-2.new.buffer c.nx_fault_line.new.needed c.nx_fault_line-2.new.needed c.requires.buffer
    c.nx_fault_line.ensures.buffer c.nx_fault_line-2.ensures.buffer fault_in bare_line c.args.needed.now
    c.args.needed_other.now c.nx_fault_line.ensures.line c.nx_fault_line-2.ensures.line)

pub returns-clause-kept : goal.returns-clause-kept
returns-clause-kept c =
    c.nx_fault_line.ensures.kept ∙ c.requires.kept ∙ sym c.nx_fault_line-2.ensures.kept
