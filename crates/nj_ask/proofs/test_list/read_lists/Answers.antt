use Rattle.std.proofs.Common.{◌≡◌, ◌≢◌, sym, subst}
use Rattle.nj_test_lists.specs.Faults.{IsMesonFault}
use Rattle.nj_test_lists.specs.declared.list_fault.ListFault.TheVariants.{OutOfMemory}
use Rattle.nj_ask.specs.declared.status.Status.TheVariants.{Fault}
use Rattle.nj_ask.specs.TestLists.{LacksLists, LacksText, faulty_path, list_line}
use Rattle.nj_ask.specs.TestLists.LacksLists.{no_list, no_targets, no_text}
use Rattle.nj_ask.proofs.FailureLemmas.{fails-as}
use Rattle.nj_ask.proofs.test_list.read_lists.Goals as goal

pub returns-in-Err-clause-lacks : goal.returns-in-Err-clause-lacks
returns-in-Err-clause-lacks g c =
    let build = c.args.build.now in
    let at = c.args.tests.now in
    let targets_at = c.args.targets.now in
    let before = g.S.FileSource.state c.args.files.now in
    let after = g.S.FileSource.state c.text_at.new.files in
    fails-as Fault (LacksText at before after) (LacksLists build at targets_at before after) c.in-Err.failure
    (λ line lacks. no_text lacks) c.in-Err.ensures.lacks

pub returns-in-Err-text_at-clause-lacks : goal.returns-in-Err-text_at-clause-lacks
returns-in-Err-text_at-clause-lacks g c =
    let build = c.args.build.now in
    let at = c.args.tests.now in
    let targets_at = c.args.targets.now in
    let before = g.S.FileSource.state c.args.files.now in
    let between = g.S.FileSource.state c.text_at.new.files in
    let after = g.S.FileSource.state c.text_at-2.new.files in
    fails-as Fault (LacksText targets_at between after) (LacksLists build at targets_at before after)
    c.in-Err-text_at.failure (λ line lacks. no_targets c.in-Ok.ensures.read lacks)
    c.in-Err-text_at.ensures.lacks

pub returns-clause-lacks : goal.returns-clause-lacks
returns-clause-lacks g c =
    let build = c.args.build.now in
    let at = c.args.tests.now in
    let targets_at = c.args.targets.now in
    let before = g.S.FileSource.state c.args.files.now in
    let after = g.S.FileSource.state c.text_at-2.new.files in
    let fault = c.in-Err-meson_tests.fault in
    fails-as Fault
    (λ line. (line ≡ list_line (faulty_path at targets_at fault) fault) × (fault ≢ OutOfMemory))
    (LacksLists build at targets_at before after) c.of_lists.result
    (λ line is. subst (LacksLists build at targets_at before after) (sym is.0)
    (no_list c.in-Ok.ensures.read c.in-Ok-text_at.ensures.read
    (subst (λ text. IsMesonFault build text c.in-Ok-text_at.more.items fault) c.deref.ensures.value
    (subst (λ text. IsMesonFault build c.deref.result.now text fault) c.deref-2.ensures.value
    c.in-Err-meson_tests.ensures.fault)) is.1))
    c.of_lists.ensures
