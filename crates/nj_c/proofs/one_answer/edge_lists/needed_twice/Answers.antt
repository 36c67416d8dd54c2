use Rattle.std.proofs.Common.{rules, w32, sym, ap, subst}
use mir.Val.{SFits}
use Rattle.nj_c.proofs.OneAnswerChanges.{same-change}
use Rattle.nj_c.proofs.OneAnswerLemmas.{passed}
use Rattle.nj_c.proofs.OneAnswerLists.{needed-agree}
use Rattle.nj_c.specs.OneAnswer.{graph_of, Equal, SameChange, SameContents, SameNeeded}
use Rattle.nj_c.specs.Pages.{ListsNeeded}
use Rattle.nj_c.proofs.one_answer.edge_lists.needed_twice.Goals as goal

pub returns : goal.returns
returns c =
    let fits : SFits w32 c.nx_needed.result = search rules in
    let fits2 : SFits w32 c.nx_needed-2.result = search rules in
    let files = c.args.files.now in
    let before = c.args.one.now.kept in
    passed (λ r s. SameChange Equal (SameNeeded (graph_of c.args.one.now.kept) c.args.files.now) r s
    c.nx_needed.new.session.kept c.nx_needed-2.new.session.kept) fits fits2
    (same-change Equal (SameNeeded (graph_of before) files) before c.args.other.now.kept
    c.nx_needed.new.session.kept c.nx_needed-2.new.session.kept c.nx_needed.result c.nx_needed-2.result
    c.requires (λ kept after. ListsNeeded kept after files) (λ kept after. ListsNeeded kept after files)
    (λ kept new new2 status status2 at memory memory2 is also.
    let agree = needed-agree files kept new new2 status status2 memory memory2 is also in
    (agree.0, subst (λ g. SameContents Equal (SameNeeded g files) new new2) (sym (ap graph_of at)) agree.1))
    c.nx_needed.ensures c.nx_needed-2.ensures)
