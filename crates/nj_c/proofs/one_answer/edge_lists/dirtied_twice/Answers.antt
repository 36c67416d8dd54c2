use Rattle.std.proofs.Common.{rules, w32}
use mir.Val.{SFits}
use Rattle.nj_c.proofs.OneAnswerChanges.{same-change}
use Rattle.nj_c.proofs.OneAnswerLemmas.{passed}
use Rattle.nj_c.proofs.OneAnswerLists.{dirty-agree}
use Rattle.nj_c.specs.OneAnswer.{Equal, SameChange}
use Rattle.nj_c.specs.DirtyEdges.{ListsDirty}
use Rattle.nj_c.proofs.one_answer.edge_lists.dirtied_twice.Goals as goal

pub returns : goal.returns
returns c =
    let fits : SFits w32 c.nx_dirtied.result = search rules in
    let fits2 : SFits w32 c.nx_dirtied-2.result = search rules in
    passed (λ r s. SameChange Equal Equal r s c.nx_dirtied.new.session.kept c.nx_dirtied-2.new.session.kept)
    fits
    fits2 (same-change Equal Equal c.args.one.now.kept c.args.other.now.kept c.nx_dirtied.new.session.kept
    c.nx_dirtied-2.new.session.kept c.nx_dirtied.result c.nx_dirtied-2.result c.requires
    (λ kept after. ListsDirty kept after c.args.files.now)
    (λ kept after. ListsDirty kept after c.args.files.now)
    (λ kept new new2 status status2 at memory memory2 is also.
    dirty-agree c.args.files.now kept new new2 status status2 memory memory2 is also) c.nx_dirtied.ensures
    c.nx_dirtied-2.ensures)
