use Rattle.std.proofs.Common.{rules, sym, w32, Bool, ◌∙◌, ◌≡◌}
use mir.Val.{SFits}
use Rattle.nj_c.proofs.OneAnswerCalls.{item-beside-number}
use Rattle.nj_c.proofs.OneAnswerGraphs.{edge_total, graph_in, unknown_at}
use Rattle.nj_c.proofs.OneAnswerLemmas.{passed}
use Rattle.nj_c.specs.Asking.{bool_code}
use Rattle.nj_c.specs.OneAnswer.{SameAnswer}
use Rattle.nj_c.proofs.one_answer.logs.is_unknown_twice.Goals as goal

pub returns-clause-same : goal.returns-clause-same
returns-clause-same c =
    let fits : SFits w32 c.nx_is_unknown.result = search rules in
    let fits2 : SFits w32 c.nx_is_unknown-2.result = search rules in
    passed (λ r s. SameAnswer r s (c.nx_is_unknown.new.unknown ≡ c.nx_is_unknown-2.new.unknown)) fits fits2
    (item-beside-number graph_in c.args.one.now.kept c.args.other.now.kept c.requires c.nx_is_unknown.result
    c.nx_is_unknown-2.result edge_total c.args.edge (unknown_at c.args.edge)
    (λ (is : Bool). c.nx_is_unknown.new.unknown ≡ bool_code is)
    (λ (is : Bool). c.nx_is_unknown-2.new.unknown ≡ bool_code is)
    (c.nx_is_unknown.new.unknown ≡ c.nx_is_unknown-2.new.unknown) (λ is v w. v ∙ sym w)
    c.nx_is_unknown.ensures.unknown c.nx_is_unknown-2.ensures.unknown)

pub returns-clause-kept : goal.returns-clause-kept
returns-clause-kept c =
    c.nx_is_unknown.ensures.kept ∙ c.requires ∙ sym c.nx_is_unknown-2.ensures.kept
