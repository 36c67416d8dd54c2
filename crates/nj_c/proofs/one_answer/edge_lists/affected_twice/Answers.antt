use Rattle.std.proofs.Common.{rules, w32}
use mir.Val.{SFits}
use Rattle.nj_c.proofs.OneAnswerChanges.{same-change}
use Rattle.nj_c.proofs.OneAnswerLemmas.{passed}
use Rattle.nj_c.proofs.OneAnswerLists.{reached-agree}
use Rattle.nj_c.specs.OneAnswer.{Equal, SameChange}
use Rattle.nj_c.specs.Pages.{ListsReached}
use Rattle.nj_c.proofs.one_answer.edge_lists.affected_twice.Goals as goal

pub returns : goal.returns
returns c =
    let fits : SFits w32 c.nx_affected.result = search rules in
    let fits2 : SFits w32 c.nx_affected-2.result = search rules in
    passed (λ r s. SameChange Equal Equal r s c.nx_affected.new.session.kept c.nx_affected-2.new.session.kept)
    fits
    fits2 (same-change Equal Equal c.args.one.now.kept c.args.other.now.kept c.nx_affected.new.session.kept
    c.nx_affected-2.new.session.kept c.nx_affected.result c.nx_affected-2.result c.requires
    (λ kept after. ListsReached kept after c.args.files.now)
    (λ kept after. ListsReached kept after c.args.files.now)
    (λ kept new new2 status status2 at memory memory2 is also.
    reached-agree c.args.files.now kept new new2 status status2 memory memory2 is also) c.nx_affected.ensures
    c.nx_affected-2.ensures)
