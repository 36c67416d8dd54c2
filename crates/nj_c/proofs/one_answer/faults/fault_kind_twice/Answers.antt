use Rattle.std.proofs.Common.{rules, sym, w32, ◌∙◌, ◌≡◌}
use mir.Val.{SFits}
use Rattle.nj_c.proofs.OneAnswerCalls.{value-of-part}
use Rattle.nj_c.proofs.OneAnswerGraphs.{fault_in}
use Rattle.nj_c.proofs.OneAnswerLemmas.{passed}
use Rattle.nj_c.specs.FaultKinds.{kind_of}
use Rattle.nj_c.specs.OneAnswer.{SameAnswer}
use Rattle.nj_c.proofs.one_answer.faults.fault_kind_twice.Goals as goal

pub returns-clause-same : goal.returns-clause-same
returns-clause-same c =
    let fits : SFits w32 c.nx_fault_kind.result = search rules in
    let fits2 : SFits w32 c.nx_fault_kind-2.result = search rules in
    passed (λ r s. SameAnswer r s (c.nx_fault_kind.new.kind ≡ c.nx_fault_kind-2.new.kind)) fits fits2
    (value-of-part c.args.one.now.kept c.args.other.now.kept c.requires c.nx_fault_kind.result
    c.nx_fault_kind-2.result fault_in (λ fault. kind_of fault.cause) c.nx_fault_kind.new.kind
    c.nx_fault_kind-2.new.kind c.nx_fault_kind.ensures.kind c.nx_fault_kind-2.ensures.kind)

pub returns-clause-kept : goal.returns-clause-kept
returns-clause-kept c =
    c.nx_fault_kind.ensures.kept ∙ c.requires ∙ sym c.nx_fault_kind-2.ensures.kept
