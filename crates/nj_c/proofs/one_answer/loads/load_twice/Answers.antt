use Rattle.std.proofs.Common.{rules, w32}
use Rattle.std.specs.Prelude.{nat_eq, not}
use mir.Val.{SFits}
use Rattle.nj_agreement.specs.Graphs.{SameGraph}
use Rattle.nj_c.proofs.OneAnswerChanges.{same-change}
use Rattle.nj_c.proofs.OneAnswerLemmas.{passed}
use Rattle.nj_c.proofs.OneAnswerLoads.{loads-agree}
use Rattle.nj_c.specs.Loading.{LoadsKept}
use Rattle.nj_c.specs.OneAnswer.{Equal, SameChange}
use Rattle.nj_c.proofs.one_answer.loads.load_twice.Goals as goal

pub returns : goal.returns
returns c =
    let fits : SFits w32 c.nx_load.result = search rules in
    let fits2 : SFits w32 c.nx_load-2.result = search rules in
    let main = c.args.main.now in
    let joins = not (nat_eq c.args.joins_dyndeps 0) in
    passed (λ r s. SameChange SameGraph Equal r s c.nx_load.new.session.kept c.nx_load-2.new.session.kept)
    fits fits2 (same-change SameGraph Equal c.args.one.now.kept c.args.other.now.kept
    c.nx_load.new.session.kept c.nx_load-2.new.session.kept c.nx_load.result c.nx_load-2.result c.requires
    (λ kept new. LoadsKept kept new main joins) (λ kept new. LoadsKept kept new main joins)
    (λ kept new new2 status status2 at memory memory2 is also.
    loads-agree main joins kept new new2 status status2 memory memory2 is also) c.nx_load.ensures
    c.nx_load-2.ensures)
