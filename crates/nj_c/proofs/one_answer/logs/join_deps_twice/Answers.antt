use Rattle.std.proofs.Common.{rules, w32}
use mir.Val.{SFits}
use Rattle.nj_agreement.specs.Graphs.{SameGraph}
use Rattle.nj_c.proofs.OneAnswerChanges.{if-stated, same-change}
use Rattle.nj_c.proofs.OneAnswerJoins.{deps-agree}
use Rattle.nj_c.proofs.OneAnswerLemmas.{passed}
use Rattle.nj_c.specs.JoinedLogs.{JoinsDeps}
use Rattle.nj_c.specs.OneAnswer.{Equal, IfStated, SameChange}
use Rattle.nj_c.proofs.one_answer.logs.join_deps_twice.Goals as goal

pub returns : goal.returns
returns c =
    let fits : SFits w32 c.nx_join_deps.result = search rules in
    let fits2 : SFits w32 c.nx_join_deps-2.result = search rules in
    let before = c.args.one.now.kept in
    let after = c.nx_join_deps.new.session.kept in
    let after2 = c.nx_join_deps-2.new.session.kept in
    let r = c.nx_join_deps.result in
    let s = c.nx_join_deps-2.result in
    let log = c.args.log.now in
    passed (λ r s. IfStated c.args.one.now.kept (SameChange SameGraph Equal r s
    c.nx_join_deps.new.session.kept c.nx_join_deps-2.new.session.kept)) fits fits2
    (if-stated before (SameChange SameGraph Equal r s after after2) (λ has. same-change SameGraph Equal before
    c.args.other.now.kept after after2 r s c.requires (λ kept new. JoinsDeps kept new log)
    (λ kept new. JoinsDeps kept new log)
    (λ kept new new2 status status2 at memory memory2 is also. deps-agree log kept new new2
    (λ g there. has kept g at there) status status2 memory memory2 is also) c.nx_join_deps.ensures
    c.nx_join_deps-2.ensures))
