use Rattle.std.proofs.Common.{◌≡◌, ◌≢◌, sym, subst}
use Rattle.nj_test_lists.specs.Faults.{IsCTestFault}
use Rattle.nj_test_lists.specs.declared.list_fault.ListFault.TheVariants.{OutOfMemory}
use Rattle.nj_ask.specs.declared.status.Status.TheVariants.{Fault}
use Rattle.nj_ask.specs.TestLists.{LacksList, LacksText, list_line}
use Rattle.nj_ask.specs.TestLists.LacksList.{no_list, no_text}
use Rattle.nj_ask.proofs.FailureLemmas.{fails-as}
use Rattle.nj_ask.proofs.test_list.read_list.Goals as goal

pub returns-in-Err-clause-lacks : goal.returns-in-Err-clause-lacks
returns-in-Err-clause-lacks g c =
    let path = c.args.path.now in
    let before = g.S.FileSource.state c.args.files.now in
    let after = g.S.FileSource.state c.text_at.new.files in
    fails-as Fault (LacksText path before after) (LacksList path before after) c.in-Err.failure
    (λ line lacks. no_text lacks) c.in-Err.ensures.lacks

pub returns-clause-lacks : goal.returns-clause-lacks
returns-clause-lacks g c =
    let path = c.args.path.now in
    let before = g.S.FileSource.state c.args.files.now in
    let after = g.S.FileSource.state c.text_at.new.files in
    let fault = c.in-Err-ctest_tests.fault in
    fails-as Fault (λ line. (line ≡ list_line path fault) × (fault ≢ OutOfMemory))
    (LacksList path before after) c.of_list.result
    (λ line is. subst (LacksList path before after) (sym is.0)
    (no_list c.in-Ok.ensures.read
    (subst (λ b. IsCTestFault b fault) c.deref.ensures.value c.in-Err-ctest_tests.ensures.fault) is.1))
    c.of_list.ensures
