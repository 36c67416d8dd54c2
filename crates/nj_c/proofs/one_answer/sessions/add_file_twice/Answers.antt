use Rattle.std.proofs.Common.{rules, w32, Some}
use mir.Val.{SFits}
use Rattle.nj_c.proofs.OneAnswerChanges.{same-change}
use Rattle.nj_c.proofs.OneAnswerLemmas.{passed}
use Rattle.nj_c.proofs.OneAnswerSessions.{supplies-agree}
use Rattle.nj_c.specs.Loading.{TakesPath}
use Rattle.nj_c.specs.OneAnswer.{Equal, SameChange}
use Rattle.nj_c.proofs.one_answer.sessions.add_file_twice.Goals as goal

pub returns : goal.returns
returns c =
    let fits : SFits w32 c.nx_add_file.result = search rules in
    let fits2 : SFits w32 c.nx_add_file-2.result = search rules in
    let path = c.args.path.now in
    passed (λ r s. SameChange Equal Equal r s c.nx_add_file.new.session.kept c.nx_add_file-2.new.session.kept)
    fits fits2
    (same-change Equal Equal c.args.one.now.kept c.args.other.now.kept c.nx_add_file.new.session.kept
    c.nx_add_file-2.new.session.kept c.nx_add_file.result c.nx_add_file-2.result c.requires
    (λ kept after. TakesPath kept after path (Some c.args.bytes.now))
    (λ kept after. TakesPath kept after path (Some c.args.bytes.now))
    (λ kept new new2 status status2 at memory memory2 is also.
    supplies-agree kept path (Some c.args.bytes.now) new new2 status status2 memory memory2 is also)
    c.nx_add_file.ensures
    c.nx_add_file-2.ensures)
