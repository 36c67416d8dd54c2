use Rattle.std.proofs.Common.{◌≡◌, rules, w32}
use mir.Val.{SFits}
use Rattle.nj_c.proofs.OneAnswerLemmas.{passed}
use Rattle.nj_c.proofs.OneAnswerRuns.{runs-agree}
use Rattle.nj_c.specs.OneAnswer.{Equal, InMemory, SameAnswer, SameContents, SameOptions, UnlessReported}
use Rattle.nj_c.proofs.one_answer.runs.run_twice.Goals as goal

pub returns : goal.returns
returns c =
    let fits : SFits w32 c.nx_run.result = search rules in
    let fits2 : SFits w32 c.nx_run-2.result = search rules in
    let one = c.nx_run.new in
    let other = c.nx_run-2.new in
    passed (λ r s. InMemory r s (UnlessReported c.nx_run.new.session.kept
    (UnlessReported c.nx_run-2.new.session.kept (SameAnswer r s (c.nx_run.new.exit ≡ c.nx_run-2.new.exit)
    × SameOptions (SameContents Equal Equal) c.nx_run.new.session.kept c.nx_run-2.new.session.kept)))) fits
    fits2 (runs-agree c.commands_law.ensures.ending c.args.one.now.kept c.args.other.now.kept
    one.session.kept other.session.kept c.nx_run.result c.nx_run-2.result c.requires c.args.words.now
    c.args.exit.now c.args.exit_other.now one.exit other.exit c.nx_run.ensures c.nx_run-2.ensures)
