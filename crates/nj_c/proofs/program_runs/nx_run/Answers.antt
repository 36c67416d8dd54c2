use Rattle.std.proofs.Common.{rules}
use Rattle.nj_c.specs.Runs.{RunsKept}
use Rattle.nj_c.proofs.AskLemmas.{altered}
use Rattle.nj_c.proofs.program_runs.nx_run.Goals as goal

pub returns-in-Some : goal.returns-in-Some
returns-in-Some c =
    altered c.run_text-status.result (λ kept then. RunsKept kept then c.args.words.now c.args.exit.now
    c.run_text-status.new.exit)
    c.in-Some.ensures.taken (search rules) (search rules) c.put.ensures (search rules)
    c.run_text-status.ensures
