use Rattle.std.proofs.Common.{◌≡◌, ◌++◌, sym, ap, subst, codes}
use Rattle.nj_scope.specs.Sources.{outcome_bytes}
use Rattle.nj_ask.specs.declared.status.Status.TheVariants.{Fault}
use Rattle.nj_ask.specs.Endings.{program_line}
use Rattle.nj_ask.specs.LogsRead.{ReadsBytes}
use Rattle.nj_ask.specs.TestLists.{LacksText}
use Rattle.nj_ask.specs.TestLists.LacksText.{absent, unreadable}
use Rattle.nj_ask.specs.Inside.LogSteps.{IsUnreadable}
use Rattle.nj_ask.proofs.FailureLemmas.{fails-as}
use Rattle.nj_ask.proofs.test_list.text_at.Goals as goal

pub returns-in-Ok-None-clause-lacks : goal.returns-in-Ok-None-clause-lacks
returns-in-Ok-None-clause-lacks g c =
    let path = c.args.path.now in
    let before = g.S.FileSource.state c.args.files.now in
    let after = g.S.FileSource.state c.bytes_at.new.built in
    fails-as Fault (λ line. line ≡ program_line (path ++ codes ": there is no such file"))
    (LacksText path before after) c.of_path.result
    (λ line is. subst (LacksText path before after) (sym is)
    (absent (subst (ReadsBytes before after path) (ap outcome_bytes c.in-Ok-None.field-0-is)
    c.in-Ok-None.ensures.read)))
    c.of_path.ensures

pub returns-in-Err-clause-lacks : goal.returns-in-Err-clause-lacks
returns-in-Err-clause-lacks g c =
    let path = c.args.path.now in
    let before = g.S.FileSource.state c.args.files.now in
    let after = g.S.FileSource.state c.bytes_at.new.built in
    fails-as Fault (IsUnreadable path before after) (LacksText path before after) c.in-Err.failure
    (λ line is. subst (LacksText path before after) (sym is.line_is) (unreadable is.read is.rises))
    c.in-Err.ensures.unreadable
